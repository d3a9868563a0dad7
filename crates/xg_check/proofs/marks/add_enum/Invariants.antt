use Rattle.std.proofs.Common.{◌≡◌, ◌++◌, ◌∷◌, [], take, flat_map}
use Rattle.xg_check.specs.declared.marks.Space.TheVariants as spaces
use Rattle.xg_check.specs.Marks.{declares, enum_type, member_marks}
use Rattle.xg_check.specs.Views.{marks_of}
use Rattle.xg_check.proofs.marks.add_enum.Given as goal

abbrev pub invariant-loop-member : goal.invariant-loop-member
invariant-loop-member l = marks_of l.marks.items ≡ marks_of l.fn.marks.items
    ++ ((declares spaces.Type l.name ∷ enum_type l.name l.members ∷ [])
    ++ flat_map member_marks (take l.member-index l.members))
