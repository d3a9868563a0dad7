use Rattle.std.proofs.Common.{inl, inr, refl, arith}
use Rattle.rx_stage.specs.contracts.invokes.Invoked.{the_view as the_invoked}
use Rattle.rx_stage.proofs.CallersMade.{caller_turned, caller_unturned}
use Rattle.rx_stage.proofs.invokes.turn_at.Goals as goal
use Rattle.rx_stage.proofs.invokes.turn_at.Goals.{then-node-eq-SERVER-via-then-node-eq-SERVER}
use Rattle.rx_stage.proofs.invokes.turn_at.Goals.{then-node-eq-SERVER-via-else-node-eq-SERVER+then-node-clients}

pub returns-then-node-eq-SERVER-clause-plays : goal.returns-then-node-eq-SERVER-clause-plays
returns-then-node-eq-SERVER-clause-plays g c =
    caller_unturned c.args.callers.now.items c.args.place c.index.result.now
    (the_invoked c.behind-callers.inside)
    c.args.nodes.now _ c.requires c.behind-callers.view_is c.index.ensures
    (elim c.then-node-eq-SERVER.branch [
      | then-node-eq-SERVER-via-then-node-eq-SERVER w ↦ inl w.if-node-eq-SERVER.true
      | then-node-eq-SERVER-via-else-node-eq-SERVER+then-node-clients w ↦ inr (omega (
        arith,
        w.clients.ensures,
        w.if-node-clients.true,
      ))
    ])

pub returns-clause-plays : goal.returns-clause-plays
returns-clause-plays g c =
    caller_turned c.args.callers.now.items _ c.args.place c.index.result.now
    (the_invoked c.behind-callers.inside)
    c.index_mut-invoked.result.now
    (the_invoked c.invoked.inside) c.call_on.new.caller c.args.nodes.now
    c.call_on.new.nodes _ _ _ c.requires c.behind-callers.view_is c.index.ensures c.invoked.view_is
    c.index_mut-invoked.ensures.value c.if-node-eq-SERVER.false
    (omega (arith, c.clients.ensures, c.if-node-clients.false)) refl c.call_on.ensures.plays
