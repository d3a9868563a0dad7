use Rattle.std.proofs.Common.{ℕ, ◌<◌}
use Rattle.xg_check.specs.Judged.{IsSizeFault}
use Rattle.xg_check.specs.Views.{marks_of}
use Rattle.xg_check.proofs.sizes.Judge.bad.Given as goal

abbrev pub invariant-loop-mark : goal.invariant-loop-mark
invariant-loop-mark l = (k : ℕ) → k < l.mark-index → IsSizeFault (record { constants = l.constants; types = l.types })
    (marks_of l.marks) k → ⊥
