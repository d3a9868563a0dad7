use Rattle.std.proofs.Common.{◌≡◌, ◌++◌, take, flat_map}
use Rattle.xg_check.specs.Marks.{case_marks}
use Rattle.xg_check.specs.Views.{marks_of}
use Rattle.xg_check.proofs.marks.add_arm.Given as goal

abbrev pub invariant-loop-case : goal.invariant-loop-case
invariant-loop-case l = marks_of l.marks.items ≡ marks_of l.fn.marks.items
    ++ flat_map (case_marks l.item l.name l.tag) (take l.case-index l.case-items)
