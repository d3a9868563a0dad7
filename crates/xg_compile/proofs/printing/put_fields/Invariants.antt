use Rattle.std.proofs.Common.{◌≡◌, ◌++◌, map, take}
use Rattle.std.specs.List.{flat_map}
use Rattle.std.specs.String.{string_bytes}
use Rattle.xdr_value.specs.View.{part_of}
use Rattle.xg_compile.specs.Tables.{field_text}
use Rattle.xg_compile.proofs.printing.put_fields.Given as goal

-- what stood there, and the text of each so far
abbrev pub invariant-loop-field : goal.invariant-loop-field
invariant-loop-field l =
    string_bytes l.out ≡ string_bytes l.initial.out
    ++ flat_map field_text (map part_of (take l.field-index l.fields))
