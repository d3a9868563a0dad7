use Rattle.std.proofs.Common.{◌≡◌, ◌++◌, take, flat_map}
use Rattle.xg_check.specs.Marks.{arg_marks}
use Rattle.xg_check.specs.Views.{marks_of}
use Rattle.xg_check.proofs.marks.add_args.Given as goal

abbrev pub invariant-loop-arg : goal.invariant-loop-arg
invariant-loop-arg l = marks_of l.marks.items ≡ marks_of l.fn.marks.items
    ++ flat_map (arg_marks l.item) (take l.arg-index l.args)
