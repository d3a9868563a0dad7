use Rattle.std.proofs.Common.{◌≡◌, drop, map}
use Rattle.xdr_value.specs.View.{choice_of}
use Rattle.xdr_value.specs.HeadView.{tag_view}
use Rattle.xdr_value.specs.Zero.{first_case}
use Rattle.xdr_value.proofs.zeros.first_case.Given as goal

abbrev pub invariant-loop-arm : goal.invariant-loop-arm
invariant-loop-arm l = first_case (tag_view l.tag) (map choice_of (drop l.arm-index l.arm-items)) ≡ first_case
    (tag_view l.tag) (map choice_of l.arms.items)
