use Rattle.rx_stage.proofs.RoundsMade.{settles_not, settles_quiet}
use Rattle.rx_stage.proofs.world.World.settle.Goals as goal

pub returns-then-quiet-clause-plays : goal.returns-then-quiet-clause-plays
returns-then-quiet-clause-plays g c =
    settles_quiet c.args.quiet c.args.self.now c.wait.new.self _ _ _ c.if-quiet.true c.wait.ensures.plays

pub returns-clause-plays : goal.returns-clause-plays
returns-clause-plays g c = settles_not c.args.quiet c.args.self.now _ c.if-quiet.false
