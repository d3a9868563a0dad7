use Rattle.std.proofs.Common.{◌≡◌, drop, map}
use Rattle.xdr_value.specs.View.{choice_of}
use Rattle.xdr_code.specs.NumberSets.{some_between, case_numbers}
use Rattle.xdr_code.proofs.items.is_case_between.Given as goal

abbrev pub invariant-loop-arm : goal.invariant-loop-arm
invariant-loop-arm l = some_between l.signed (case_numbers (map choice_of (drop l.arm-index l.arm-items))) l.low l.high
    ≡ some_between l.signed (case_numbers (map choice_of l.arms.items)) l.low l.high
