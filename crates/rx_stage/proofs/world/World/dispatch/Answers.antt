use Rattle.rx_jobs.specs.Handlers.{handlers_of}
use Rattle.rx_stage.specs.contracts.world.World.{the_view}
use Rattle.rx_stage.proofs.TurnsMade.{dispatch_plays}
use Rattle.rx_stage.proofs.world.World.dispatch.Goals as goal

pub returns-clause-plays : goal.returns-clause-plays
returns-clause-plays g c =
    dispatch_plays (handlers_of c.args.iface.now) (the_view c.self.inside) c.args.self.now c.dispatch_on.new.nodes
    c.dispatch_on.new.dispatcher _ _ _ c.self.view_is c.dispatch_on.ensures.plays
