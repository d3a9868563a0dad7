use Rattle.std.proofs.Common.{ℕ, ◌<◌}
use Rattle.xg_check.specs.Judged.{IsUnknown}
use Rattle.xg_check.specs.Views.{marks_of}
use Rattle.xg_check.proofs.unknown.unknown.Given as goal

abbrev pub invariant-loop-mark : goal.invariant-loop-mark
invariant-loop-mark l = (k : ℕ) → k < l.mark-index → IsUnknown (record { constants = l.constants; types = l.types })
    (marks_of l.marks) k → ⊥
