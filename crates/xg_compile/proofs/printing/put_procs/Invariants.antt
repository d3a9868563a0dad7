use Rattle.std.proofs.Common.{◌≡◌, ◌++◌, map, take}
use Rattle.std.specs.List.{flat_map}
use Rattle.std.specs.String.{string_bytes}
use Rattle.xdr_value.specs.View.{proc_of}
use Rattle.xg_compile.specs.Tables.{proc_line}
use Rattle.xg_compile.proofs.printing.put_procs.Given as goal

-- what stood there, and the text of each so far
abbrev pub invariant-loop-one : goal.invariant-loop-one
invariant-loop-one l =
    string_bytes l.out ≡ string_bytes l.initial.out
    ++ flat_map proc_line (map proc_of (take l.one-index l.procs))
