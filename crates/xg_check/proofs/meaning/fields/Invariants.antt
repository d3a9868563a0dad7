use Rattle.std.proofs.Common.{◌≡◌, map, take}
use Rattle.xdr_value.specs.View.{part_of}
use Rattle.xg_check.specs.Meant.{field_meant}
use Rattle.xg_check.proofs.meaning.fields.Given as goal

abbrev pub invariant-loop-decl : goal.invariant-loop-decl
invariant-loop-decl l = map part_of l.fields.items ≡ map (field_meant l.constants) (take l.decl-index l.decls)
