use Rattle.std.proofs.Common.{◌≡◌, drop, map}
use Rattle.xdr_value.specs.View.{choice_of}
use Rattle.xdr_value.specs.HeadView.{tag_view}
use Rattle.xdr_value.specs.Tests.{arms_in_range}
use Rattle.xdr_value.proofs.ranges.arms_in_range.Given as goal

abbrev pub invariant-loop-arm : goal.invariant-loop-arm
invariant-loop-arm l = arms_in_range (tag_view l.tag) (map choice_of (drop l.arm-index l.arm-items)) ≡ arms_in_range
    (tag_view l.tag) (map choice_of l.arms.items)
