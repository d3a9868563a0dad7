use Rattle.std.proofs.Common.{refl}
use Rattle.rx_plan.specs.Network.{delivers}
use Rattle.rx_plan.specs.Parts.{each}
use Rattle.rx_stage.specs.contracts.world.World.{the_view}
use Rattle.rx_stage.proofs.RoundsMade.{plays_from}
use Rattle.rx_stage.proofs.world.World.deliver_given.Goals as goal

pub returns-clause-plays : goal.returns-clause-plays
returns-clause-plays g c =
    plays_from (each delivers c.args.given.now) (the_view c.self.inside) c.args.self.now _ _ _ _ c.self.view_is
    (c.deliver_all.ensures (the_view c.self.inside) refl)
