use Rattle.std.proofs.Common.{◌≡◌, ◌++◌, map, take}
use Rattle.std.specs.List.{flat_map}
use Rattle.std.specs.String.{string_bytes}
use Rattle.xdr_value.specs.View.{member_of}
use Rattle.xg_compile.specs.Tables.{member_text}
use Rattle.xg_compile.proofs.printing.put_members.Given as goal

-- what stood there, and the text of each so far
abbrev pub invariant-loop-member : goal.invariant-loop-member
invariant-loop-member l =
    string_bytes l.out ≡ string_bytes l.initial.out
    ++ flat_map member_text (map member_of (take l.member-index l.members))
