use Rattle.std.proofs.Common.{◌-◌}
use Rattle.rx_sendwin.specs.Lost.{order_in}
use Rattle.rx_sendwin.proofs.Losing.{LooksPast}
use Rattle.rx_sendwin.proofs.lost.lost_among.Given as goal

abbrev pub invariant-loop-seq : goal.invariant-loop-seq
invariant-loop-seq l = LooksPast l.acked l.given l.since l.soft (order_in l.pieces.items) l.seq l.lost l.latest

abbrev pub decreases-loop-seq : goal.decreases-loop-seq
decreases-loop-seq l = l.seq - l.acked
