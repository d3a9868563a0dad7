use Rattle.rx_plan.specs.Turned.{turns_on}
use Rattle.rx_stage.specs.contracts.world.World.{the_view}
use Rattle.rx_stage.proofs.CallersMade.{world_turned}
use Rattle.rx_stage.proofs.world.World.turn_of.Goals as goal

pub returns-clause-plays : goal.returns-clause-plays
returns-clause-plays g c =
    world_turned (turns_on c.args.node) (the_view c.self.inside) c.args.self.now c.turn_of.new.nodes c.turn_of.new.self
    _ _ _ c.self.view_is
    c.turn_of.ensures
