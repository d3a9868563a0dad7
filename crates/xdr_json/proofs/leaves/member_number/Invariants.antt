use Rattle.std.proofs.Common.{◌≡◌, drop, map}
use Rattle.xdr_value.specs.View.{member_of}
use Rattle.xdr_json.specs.Judging.{member_number}
use Rattle.xdr_json.proofs.leaves.member_number.Given as goal

-- it is what the members that are left give
abbrev pub invariant-loop-member : goal.invariant-loop-member
invariant-loop-member l =
    member_number (map member_of (drop l.member-index l.member-items)) l.name
    ≡ member_number (map member_of l.members.items) l.name
