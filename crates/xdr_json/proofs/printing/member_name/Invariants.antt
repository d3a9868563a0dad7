use Rattle.std.proofs.Common.{◌≡◌, drop, map}
use Rattle.xdr_value.specs.View.{member_of}
use Rattle.xdr_json.specs.Json.{member_name}
use Rattle.xdr_json.proofs.printing.member_name.Given as goal

-- it is what the members that are left give
abbrev pub invariant-loop-member : goal.invariant-loop-member
invariant-loop-member l =
    member_name (map member_of (drop l.member-index l.member-items)) l.number
    ≡ member_name (map member_of l.members.items) l.number
