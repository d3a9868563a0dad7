use Rattle.std.proofs.Common.{◌≡◌, ◌⊎◌, ℕ, true, length, slice_get, Some}
use Rattle.xg_check.proofs.ringless.add_marks.Given as goal

abbrev pub invariant-loop-at : goal.invariant-loop-at
invariant-loop-at l = (length l.marks.items ≡ length l.others)
    × ((i : ℕ) → slice_get l.marks.items i ≡ Some true
    → (slice_get l.fn.marks.items i ≡ Some true) ⊎ (slice_get l.others i ≡ Some true))
