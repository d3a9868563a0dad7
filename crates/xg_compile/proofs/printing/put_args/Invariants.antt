use Rattle.std.proofs.Common.{◌≡◌, ◌++◌, map, take}
use Rattle.std.specs.List.{flat_map}
use Rattle.std.specs.String.{string_bytes}
use Rattle.xdr_value.specs.View.{param_of}
use Rattle.xg_compile.specs.Tables.{param_text}
use Rattle.xg_compile.proofs.printing.put_args.Given as goal

-- what stood there, and the text of each so far
abbrev pub invariant-loop-arg : goal.invariant-loop-arg
invariant-loop-arg l =
    string_bytes l.out ≡ string_bytes l.initial.out
    ++ flat_map param_text (map param_of (take l.arg-index l.args))
