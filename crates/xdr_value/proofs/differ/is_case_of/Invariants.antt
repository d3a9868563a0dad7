use Rattle.std.proofs.Common.{◌≡◌, drop, map}
use Rattle.xdr_value.specs.Data.{Choice}
use Rattle.xdr_value.specs.View.{choice_of}
use Rattle.xdr_value.specs.Facts.{same_case}
use Rattle.xdr_value.specs.Tests.{has_one}
use Rattle.xdr_value.proofs.differ.is_case_of.Given as goal

abbrev pub invariant-loop-arm : goal.invariant-loop-arm
invariant-loop-arm l = has_one same_case l.case
    (map (λ (c : Choice). c.case) (map choice_of (drop l.arm-index l.arms))) ≡ has_one same_case l.case
    (map (λ (c : Choice). c.case) (map choice_of l.arms))
