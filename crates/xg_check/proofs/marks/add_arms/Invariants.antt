use Rattle.std.proofs.Common.{◌≡◌, ◌++◌, take, flat_map}
use Rattle.xg_check.specs.Marks.{arm_marks}
use Rattle.xg_check.specs.Views.{marks_of}
use Rattle.xg_check.proofs.marks.add_arms.Given as goal

abbrev pub invariant-loop-arm : goal.invariant-loop-arm
invariant-loop-arm l = marks_of l.marks.items ≡ marks_of l.fn.marks.items
    ++ flat_map (arm_marks l.item l.name l.tag) (take l.arm-index l.arms)
