use Rattle.std.proofs.Common.{◌≡◌, drop, map}
use Rattle.xdr_value.specs.View.{member_of}
use Rattle.xdr_value.specs.Tests.{members_in_range}
use Rattle.xdr_value.proofs.ranges.members_in_range.Given as goal

abbrev pub invariant-loop-member : goal.invariant-loop-member
invariant-loop-member l = members_in_range (map member_of (drop l.member-index l.member-items)) ≡ members_in_range
    (map member_of l.members.items)
