use Rattle.std.proofs.Common.{Some, None}
use Rattle.rx_stage.specs.contracts.world.World.{the_view}
use Rattle.rx_stage.proofs.Playing.{plays_none}
use Rattle.rx_stage.proofs.RoundsMade.{waits_play}
use Rattle.rx_stage.proofs.world.World.wait.Goals as goal

pub returns-in-Some-clause-plays : goal.returns-in-Some-clause-plays
returns-in-Some-clause-plays g c =
    waits_play (the_view c.self.inside) c.args.self.now c.move_by.new.self (Some c.in-Some.time) _ _ _ c.self.view_is
    c.in-Some.ensures c.move_by.ensures.plays

pub returns-in-None-clause-plays : goal.returns-in-None-clause-plays
returns-in-None-clause-plays g c =
    waits_play (the_view c.self.inside) c.args.self.now c.args.self.now None _ _ _ c.self.view_is c.in-None.ensures
    (plays_none c.args.self.now _)
