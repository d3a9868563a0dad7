use Rattle.std.proofs.Common.{arith}
use Rattle.rx_sendwin.proofs.Acks.{known_past}
use Rattle.rx_sendwin.proofs.marks.last_known.Goals as goal

pub returns-clause-past : goal.returns-clause-past
returns-clause-past c =
    λ k lt most. known_past c.args.acked c.args.marks.now k (omega (arith, lt, most, c.min.ensures))
