use Rattle.std.proofs.Common.{◌≡◌, drop, map}
use Rattle.xdr_value.specs.View.{member_of}
use Rattle.xdr_value.specs.Ranges.{has_number}
use Rattle.xdr_value.proofs.ranges.has_number.Given as goal

abbrev pub invariant-loop-member : goal.invariant-loop-member
invariant-loop-member l = has_number (map member_of (drop l.member-index l.member-items)) l.number ≡ has_number
    (map member_of l.members.items) l.number
