use Rattle.std.proofs.Common.{◌≡◌, true, drop, map}
use Rattle.xdr_value.specs.View.{member_of}
use Rattle.xdr_code.specs.NumberSets.{some_between, numbers}
use Rattle.xdr_code.proofs.items.is_member_between.Given as goal

abbrev pub invariant-loop-member : goal.invariant-loop-member
invariant-loop-member l = some_between true (numbers (map member_of (drop l.member-index l.member-items))) l.low l.high
    ≡ some_between true (numbers (map member_of l.members.items)) l.low l.high
