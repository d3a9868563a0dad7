use Rattle.std.proofs.Common.{◌≡◌, drop, map}
use Rattle.xdr_value.specs.Data.{Choice}
use Rattle.xdr_value.specs.View.{choice_of}
use Rattle.xdr_value.specs.Facts.{same_case}
use Rattle.xdr_value.specs.Tests.{differ}
use Rattle.xdr_value.proofs.differ.cases_differ.Given as goal

abbrev pub invariant-loop-i : goal.invariant-loop-i
invariant-loop-i l = differ same_case (map (λ (c : Choice). c.case) (map choice_of (drop l.i l.arms))) ≡ differ
    same_case (map (λ (c : Choice). c.case) (map choice_of l.arms))
