use Rattle.std.proofs.Common.{◌≡◌, ◌≤◌, ◌+◌}
use Rattle.rx_sendwin.specs.Marks.{is_acked_by, newly_by}
use Rattle.rx_sendwin.proofs.marks.count_newly.Given as goal

abbrev pub invariant-loop-i : goal.invariant-loop-i
invariant-loop-i l = record {
  most : l.n ≤ l.i;
  so_far : l.n ≡ newly_by (is_acked_by l.acked l.soft) (is_acked_by l.now_acked l.marks) (l.acked + l.i);
}
