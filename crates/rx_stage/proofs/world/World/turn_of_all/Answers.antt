use Rattle.rx_plan.specs.Turned.{turns_all}
use Rattle.rx_stage.specs.contracts.world.World.{the_view}
use Rattle.rx_stage.proofs.CallersMade.{world_turned}
use Rattle.rx_stage.proofs.world.World.turn_of_all.Goals as goal

pub returns-clause-plays : goal.returns-clause-plays
returns-clause-plays g c =
    world_turned turns_all (the_view c.self.inside) c.args.self.now c.turn_all.new.nodes c.turn_all.new.self _ _ _
    c.self.view_is
    c.turn_all.ensures
