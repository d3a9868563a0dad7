use Rattle.rx_stage.specs.contracts.invokes.Invoked.{the_view as the_invoked}
use Rattle.rx_stage.proofs.CallersMade.{other_unturned, own_turned}
use Rattle.rx_stage.proofs.invokes.turn_for.Goals as goal

pub returns-then-index-node-clause-plays : goal.returns-then-index-node-clause-plays
returns-then-index-node-clause-plays g c =
    other_unturned c.args.node c.args.place c.args.callers.now.items c.index.result.now
    (the_invoked c.behind-callers.inside) c.args.nodes.now _ c.requires c.behind-callers.view_is c.index.ensures
    c.if-index-node.true

pub returns-clause-plays : goal.returns-clause-plays
returns-clause-plays g c =
    own_turned c.args.node c.args.place c.args.callers.now.items c.turn_at.new.callers.items
    c.index.result.now
    (the_invoked c.behind-callers.inside) c.args.nodes.now c.turn_at.new.nodes _ _ _ c.requires
    c.behind-callers.view_is c.index.ensures c.if-index-node.false c.turn_at.ensures.plays
