use Rattle.std.proofs.Common.{◌≡◌, ◌++◌, ◌∷◌, [], take, flat_map}
use Rattle.xg_check.specs.declared.marks.Space.TheVariants as spaces
use Rattle.xg_check.specs.Marks.{declares, struct_type, field_marks}
use Rattle.xg_check.specs.Views.{marks_of}
use Rattle.xg_check.proofs.marks.add_struct.Given as goal

abbrev pub invariant-loop-field : goal.invariant-loop-field
invariant-loop-field l = marks_of l.marks.items ≡ marks_of l.fn.marks.items
    ++ ((declares spaces.Type l.name ∷ struct_type l.name ∷ [])
    ++ flat_map (field_marks l.item) (take l.field-index l.fields))
