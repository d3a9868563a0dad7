use Rattle.std.proofs.Common.{◌≡◌, ◌++◌, map, take}
use Rattle.std.specs.List.{flat_map}
use Rattle.std.specs.String.{string_bytes}
use Rattle.xdr_value.specs.View.{def_of}
use Rattle.xg_compile.specs.Tables.{type_line}
use Rattle.xg_compile.proofs.printing.put_types.Given as goal

-- what stood there, and the text of each so far
abbrev pub invariant-loop-def : goal.invariant-loop-def
invariant-loop-def l =
    string_bytes l.out ≡ string_bytes l.initial.out
    ++ flat_map type_line (map def_of (take l.def-index l.types))
