use Rattle.std.proofs.Common.{ℕ, ◌<◌}
use Rattle.xg_check.specs.Judged.{IsEndless}
use Rattle.xg_check.proofs.endless.endless.Given as goal

abbrev pub invariant-loop-place : goal.invariant-loop-place
invariant-loop-place l = (k : ℕ) → k < l.place → IsEndless l.types k → ⊥
