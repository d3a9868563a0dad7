use Rattle.std.proofs.Common.{◌≡◌, length}
use Rattle.rx_due.proofs.tests.firsts_counted.Given as goal

abbrev pub invariant-loop-call : goal.invariant-loop-call
invariant-loop-call g l = length l.book ≡ l.keys
