use Rattle.std.proofs.Common.{ℕ, ◌<◌}
use Rattle.xg_check.specs.Counting.{IsMissing}
use Rattle.xg_check.proofs.opcodes.first_without.Given as goal

abbrev pub invariant-loop-at : goal.invariant-loop-at
invariant-loop-at l = (k : ℕ) → k < l.at → IsMissing l.opcodes k → ⊥
