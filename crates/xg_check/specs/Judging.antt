-- What sizes are judged by. No public clause cites this module.
use Rattle.std.specs.Prelude.{◌≡◌, ℕ, Bool, true, false, List, length, Some, slice_get}
use Rattle.xg_parse.specs.declared.tree.Part.{Part}
use Rattle.xg_check.specs.declared.sizes.Judge.{Judge}
use Rattle.xg_check.specs.Constants.{ConstantDef}
use Rattle.xg_check.specs.Judged.{HoldsNoEndless}
use Rattle.xg_check.specs.Held.{AreEncodings, AreTags}

-- the marks are those of the types that are endless or lead to an endless one
pub record AreWithoutEnd (ts : List Part) (marks : List Bool) : Type 0 where
  pub size : length marks ≡ length ts
  pub free : (i : ℕ) → slice_get marks i ≡ Some false → HoldsNoEndless ts (Some i)
  pub held : (i : ℕ) → slice_get marks i ≡ Some true → HoldsNoEndless ts (Some i) → ⊥

-- it has what sizes of these types and constants are judged by
pub record CanJudge (ts : List Part) (cs : List ConstantDef) (judge : Judge) : Type 0 where
  pub encodings : AreEncodings ts cs judge.encodings.hollow.items judge.encodings.least.items
  pub tags : AreTags ts cs judge.tags.tags.items judge.tags.values
  pub without_end : AreWithoutEnd ts judge.without_end.items
