use Rattle.std.proofs.Common.{◌≡◌, map, flat_map, take}
use Rattle.xdr_value.specs.View.{choice_of}
use Rattle.xg_check.specs.Meant.{arm_meant}
use Rattle.xg_check.proofs.meaning.arms.Given as goal

abbrev pub invariant-loop-item : goal.invariant-loop-item
invariant-loop-item l = map choice_of l.arms.items ≡ flat_map (arm_meant l.constants) (take l.item-index l.items)
