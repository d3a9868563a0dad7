use Rattle.std.proofs.Common.{◌≡◌, ◌+◌, drop}
use Rattle.rx_rules.specs.Sent.{marks_past}
use Rattle.rx_sendwin.proofs.marks.has_mark_past.Given as goal

abbrev pub invariant-loop-i : goal.invariant-loop-i
invariant-loop-i l = marks_past l.marks l.first l.given ≡ marks_past (drop l.i l.marks) (l.first + l.i) l.given
