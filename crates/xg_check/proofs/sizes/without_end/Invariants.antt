use Rattle.std.proofs.Common.{◌≡◌, ◌<◌, ℕ, false, Some, slice_get}
use Rattle.xg_check.proofs.sizes.without_end.Given as goal

abbrev pub invariant-loop-place : goal.invariant-loop-place
invariant-loop-place l = record {
  starts_open : (p i : ℕ) → slice_get l.starts.items p ≡ Some i → slice_get l.order.ended.items i ≡ Some false;
  open_starts : (i : ℕ) → i < l.place → slice_get l.order.ended.items i ≡ Some false
      → (p : ℕ) × (slice_get l.starts.items p ≡ Some i);
}
