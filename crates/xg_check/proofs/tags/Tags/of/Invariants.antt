use Rattle.std.proofs.Common.{◌≡◌, ◌<◌, ◌&&◌, ℕ, ℤ, false, ltb, Some, length, slice_get}
use Rattle.std.specs.HashSet.{contains}
use Rattle.xg_check.specs.Tags.{tag_at, enum_has}
use Rattle.xg_check.specs.Held.{AreTagged, same_pair}
use Rattle.xg_check.proofs.tags.Tags.of.Given as goal

abbrev pub invariant-loop-place : goal.invariant-loop-place
invariant-loop-place l = record {
  tagged : AreTagged l.types l.place-items l.place-index l.found.tags.items;
  empty : (i : ℕ) (z : ℤ) → contains same_pair l.found.values (i, z) ≡ false;
}

abbrev pub invariant-loop-place-2 : goal.invariant-loop-place-2
invariant-loop-place-2 l = record {
  size : length l.found.tags.items ≡ length l.types;
  tags_are : (i : ℕ) → i < length l.types → slice_get l.found.tags.items i ≡ Some (tag_at l.types i);
  values_are : (i : ℕ) (z : ℤ) → contains same_pair l.found.values (i, z)
      ≡ (ltb i l.place && enum_has l.constants (slice_get l.types i) z);
}
