use Rattle.std.proofs.Common.{◌≡◌, ◌++◌, take}
use Rattle.xg_check.specs.Typed.{decls_places}
use Rattle.xg_check.proofs.types.add_fields.Given as goal

abbrev pub invariant-loop-field : goal.invariant-loop-field
invariant-loop-field l = l.next.items ≡ l.fn.next.items ++ decls_places l.types l.ways (take l.field-index l.fields)
