-- The node was polled by its driver.
use Rattle.std.proofs.Common.{◌≤◌, ◌∙◌, ap, arith, get_or, inl, length, subst, sym}
use Rattle.rx_drive.specs.Tells.{Ways}
use Rattle.rx_joint.specs.Nodes.{IsNodeThere}
use Rattle.rx_plan.specs.Rounds.{polling}
use Rattle.rx_stage.specs.Ran.{stop_of}
use Rattle.rx_stage.specs.RoundsPlayed.{more_from}
use Rattle.rx_stage.specs.Shown.{WorldState}
use Rattle.rx_stage.proofs.Driving.{polls_driven}
use Rattle.rx_stage.proofs.Lending.{client_lent, clients_left, server_lent}
use Rattle.rx_stage.proofs.Polling.{polls_want, told_seen, turn_seen}
use Rattle.rx_stage.proofs.world.World.poll_from.Goals as goal

pub poll_out-polled-requires-clause-can : goal.poll_out-polled-requires-clause-can
poll_out-polled-requires-clause-can g c = inl (λ d. tt)

pub poll_out-polled-requires-2-clause-can : goal.poll_out-polled-requires-2-clause-can
poll_out-polled-requires-2-clause-can g c = inl (λ d. tt)

pub returns-in_err-single-clause-plays : goal.returns-in_err-single-clause-plays
returns-in_err-single-clause-plays g c =
    polls_want c.args.from c.args.node c.args.given.now.items _ _ _ c.from_residual.result _ c.from_residual.ensures

pub returns-then-node-eq-SERVER-clause-plays : goal.returns-then-node-eq-SERVER-clause-plays
returns-then-node-eq-SERVER-clause-plays g c =
    let book = c.book-1.given.1 (sym (ap (λ (w : Ways). get_or w.names 2 0) c.poll_out-polled.ensures.ways)) in
    let out = c.out-1.given.1 (sym (ap (λ (w : Ways). get_or w.names 1 0) c.poll_out-polled.ensures.ways)) in
    let given = c.given-1.given.1 (sym (ap (λ xs. get_or xs 0 0) c.poll_out-polled.ensures.names)) in
    turn_seen (polling c.args.from) c.args.node (more_from c.args.given.now.items) _ c.self.inside.nodes _ _
    (stop_of c.plan_end.result) _ _ _ (ap (λ (w : WorldState). w.nodes) c.self.view_is)
    (told_seen g.J.Journal.told g.O.Sink.told g.O.Sink.faults _ _ _ _ book out)
    (polls_driven (record { from = c.args.from; given = c.args.given.now.items; name = _ })
    (record {
      from = c.poll_out-polled.new.carrier.from;
      given = c.poll_out-polled.new.carrier.given.now.items;
      name = c.poll_out-polled.new.carrier.given.ghost_name;
    }) c.given-1.given.0.items c.self.inside.nodes _ c.args.node _ _ _ _ (stop_of c.plan_end.result) _ _
    c.plan_end.ensures
    (server_lent c.self.inside.nodes c.args.node c.server_mut-server.result.now c.poll_out-polled.new.node
    c.if-node-eq-SERVER.true c.server_mut-server.ensures.value c.poll_out-polled.ensures.setup)
    c.poll_out-polled.ensures.polls
    (ap (λ v. v.items) given))

pub returns-clause-plays : goal.returns-clause-plays
returns-clause-plays g c =
    let there : IsNodeThere c.self.inside.nodes c.args.node =
    subst (λ (w : WorldState). IsNodeThere w.nodes c.args.node) (sym c.self.view_is) c.requires in
    let one : 1 ≤ c.args.node = omega (arith, c.if-node-eq-SERVER.false) in
    let book = c.book-2-1.given.1 (sym (ap (λ (w : Ways). get_or w.names 2 0) c.poll_out-polled-2.ensures.ways)) in
    let out = c.out-2-1.given.1 (sym (ap (λ (w : Ways). get_or w.names 1 0) c.poll_out-polled-2.ensures.ways)) in
    let given = c.given-2-1.given.1 (sym (ap (λ xs. get_or xs 0 0) c.poll_out-polled-2.ensures.names)) in
    turn_seen (polling c.args.from) c.args.node (more_from c.args.given.now.items) _ c.self.inside.nodes _ _
    (stop_of c.plan_end-2.result) _ _ _ (ap (λ (w : WorldState). w.nodes) c.self.view_is)
    (told_seen g.J.Journal.told g.O.Sink.told g.O.Sink.faults _ _ _ _ book out)
    (polls_driven (record { from = c.args.from; given = c.args.given.now.items; name = _ })
    (record {
      from = c.poll_out-polled-2.new.carrier.from;
      given = c.poll_out-polled-2.new.carrier.given.now.items;
      name = c.poll_out-polled-2.new.carrier.given.ghost_name;
    }) c.given-2-1.given.0.items c.self.inside.nodes _ c.args.node _ _ _ _ (stop_of c.plan_end-2.result) _ _
    c.plan_end-2.ensures
    (client_lent c.self.inside.nodes c.args.node c.client_mut-client.result.now c.poll_out-polled-2.new.node
    (one, there)
    c.client_mut-client.ensures.value c.poll_out-polled-2.ensures.setup) c.poll_out-polled-2.ensures.polls
    (ap (λ v. v.items) given))

pub returns-clause-clients : goal.returns-clause-clients
returns-clause-clients g c =
    clients_left c.self.inside.nodes c.args.node c.poll_out-polled-2.new.node
    ∙ ap (λ (w : WorldState). length w.nodes.clients) c.self.view_is
