use Rattle.std.proofs.Common.{◌≡◌, drop, map}
use Rattle.xdr_value.specs.View.{choice_of}
use Rattle.xdr_value.specs.Heads.{own_arm}
use Rattle.xdr_value.proofs.head.own_arm.Given as goal

abbrev pub invariant-loop-arm : goal.invariant-loop-arm
invariant-loop-arm l = own_arm l.number (map choice_of (drop l.arm-index l.arm-items)) ≡ own_arm l.number
    (map choice_of l.arms.items)
