use Rattle.std.proofs.Common.{◌≡◌, ◌++◌, drop}
use Rattle.xg_check.specs.Marks.{marks_from}
use Rattle.xg_check.specs.Views.{marks_of}
use Rattle.xg_check.proofs.marks.marks.Given as goal

abbrev pub invariant-loop-item : goal.invariant-loop-item
invariant-loop-item l = marks_of l.marks.items ++ marks_from l.item (drop l.item l.items) ≡ marks_from 0 l.items
