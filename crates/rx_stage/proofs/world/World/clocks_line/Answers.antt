-- Where no moment is later, all clocks are set.
use Rattle.rx_stage.specs.Ran.{stop_of}
use Rattle.rx_stage.proofs.Clocking.{clocks_made, clocks_refused}
use Rattle.rx_stage.proofs.world.World.clocks_line.Goals as goal

pub returns-then-is_later-clause-plays : goal.returns-then-is_later-clause-plays
returns-then-is_later-clause-plays g c =
    clocks_refused _ _ c.args.now c.is_later.result _ c.self.view_is c.is_later.ensures c.if-is_later.true

pub returns-clause-plays : goal.returns-clause-plays
returns-clause-plays g c =
    clocks_made _ _ _ c.args.now c.is_later.result (stop_of c.set_clocks.result) _ _ c.self.view_is c.is_later.ensures
    c.if-is_later.false c.set_clocks.ensures.plays
