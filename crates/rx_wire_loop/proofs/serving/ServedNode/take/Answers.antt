use Rattle.std.proofs.Common.{Some}
use Rattle.rx_drive.specs.Ran.{stop_of}
use Rattle.rx_wire_loop.proofs.Passing.{takes_known}
use Rattle.rx_wire_loop.proofs.serving.ServedNode.take.Goals as goal

pub returns-clause-plays : goal.returns-clause-plays
returns-clause-plays g c =
    λ sink. takes_known 0 c.args.self.now.ports.node _ _ _ _ _ c.wait_until-until.result (Some c.args.end)
    (stop_of c.take.result) c.requires.ready.number c.wait_until-until.ensures.exact (c.take.ensures.plays sink)
