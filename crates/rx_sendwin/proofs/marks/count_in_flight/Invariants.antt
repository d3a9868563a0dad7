use Rattle.std.proofs.Common.{◌≡◌, ◌≤◌, ◌+◌, ◌-◌}
use Rattle.rx_sendwin.specs.Marks.{is_acked_by, flight_by}
use Rattle.rx_sendwin.proofs.marks.count_in_flight.Given as goal

abbrev pub invariant-loop-i : goal.invariant-loop-i
invariant-loop-i l = record {
  most : l.n ≤ l.given - l.known + l.i;
  so_far : l.n ≡ flight_by (is_acked_by l.acked l.marks) (l.acked + l.i) + (l.given - l.known);
}
