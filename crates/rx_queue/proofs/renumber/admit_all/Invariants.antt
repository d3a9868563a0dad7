use Rattle.std.proofs.Common.{◌≡◌, ◌<◌, ℕ, Some, length}
use Rattle.rx_due.specs.Book.{moment_of}
use Rattle.rx_queue.proofs.renumber.admit_all.Given as goal

-- the keys before are ready, by their numbers
abbrev pub invariant-loop-key : goal.invariant-loop-key
invariant-loop-key l =
    record {
      room : length l.ready ≡ length l.counts;
      each : (q : ℕ) → q < l.key → moment_of l.ready q ≡ moment_of l.counts q;
      told : (q n : ℕ) → moment_of l.ready q ≡ Some n → moment_of l.counts q ≡ Some n;
    }
