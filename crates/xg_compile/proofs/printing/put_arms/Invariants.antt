use Rattle.std.proofs.Common.{◌≡◌, ◌++◌, map, take}
use Rattle.std.specs.List.{flat_map}
use Rattle.std.specs.String.{string_bytes}
use Rattle.xdr_value.specs.View.{choice_of}
use Rattle.xg_compile.specs.Tables.{arm_text}
use Rattle.xg_compile.proofs.printing.put_arms.Given as goal

-- what stood there, and the text of each so far
abbrev pub invariant-loop-arm : goal.invariant-loop-arm
invariant-loop-arm l =
    string_bytes l.out ≡ string_bytes l.initial.out
    ++ flat_map arm_text (map choice_of (take l.arm-index l.arms))
