use Rattle.std.proofs.Common.{ℕ, ◌<◌, take}
use Rattle.xg_check.specs.Judged.{IsTwice}
use Rattle.xg_check.specs.Met.{AreMet}
use Rattle.xg_check.specs.Views.{marks_of}
use Rattle.xg_check.proofs.twice.twice.Given as goal

abbrev pub invariant-loop-mark : goal.invariant-loop-mark
invariant-loop-mark l = record {
  met : AreMet l.constants (marks_of (take l.mark-index l.marks)) l.met;
  none : (k : ℕ) → k < l.mark-index → IsTwice l.constants (marks_of l.marks) k → ⊥;
}
