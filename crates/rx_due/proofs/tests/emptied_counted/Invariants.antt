use Rattle.std.proofs.Common.{◌≡◌, length}
use Rattle.rx_due.proofs.tests.emptied_counted.Given as goal

abbrev pub invariant-loop-key : goal.invariant-loop-key
invariant-loop-key g l = length l.book ≡ l.keys

abbrev pub invariant-loop : goal.invariant-loop
invariant-loop g l = length l.book ≡ l.keys
