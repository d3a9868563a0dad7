use Rattle.std.proofs.Common.{◌≡◌, ◌≤◌, ◌-◌}
use Rattle.rx_sendwin.specs.Marks.{is_acked_by, highest_by}
use Rattle.rx_sendwin.proofs.marks.highest_newly.Given as goal

abbrev pub invariant-loop-seq : goal.invariant-loop-seq
invariant-loop-seq l = record {
  least : l.acked ≤ l.seq;
  most : l.seq ≤ l.given;
  so_far : highest_by (is_acked_by l.acked l.soft) (is_acked_by l.now_acked l.marks) l.given
      ≡ highest_by (is_acked_by l.acked l.soft) (is_acked_by l.now_acked l.marks) l.seq;
}

abbrev pub decreases-loop-seq : goal.decreases-loop-seq
decreases-loop-seq l = l.seq - l.acked
