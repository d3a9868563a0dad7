use Rattle.std.proofs.Common.{◌≡◌, ◌≤◌, ◌+◌, ◌-◌, length, drop}
use Rattle.rx_sendwin.specs.Marks.{leading_marks}
use Rattle.rx_sendwin.proofs.marks.leading.Given as goal

abbrev pub invariant-loop-n : goal.invariant-loop-n
invariant-loop-n l = record {
  most : l.n ≤ length l.marks;
  so_far : leading_marks l.marks ≡ l.n + leading_marks (drop l.n l.marks);
}

abbrev pub decreases-loop-n : goal.decreases-loop-n
decreases-loop-n l = length l.marks - l.n
