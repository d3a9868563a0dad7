use Rattle.std.proofs.Common.{◌≡◌, drop, map}
use Rattle.xdr_value.specs.View.{choice_of}
use Rattle.xdr_value.specs.Heads.{default_arm}
use Rattle.xdr_value.proofs.head.default_arm.Given as goal

abbrev pub invariant-loop-arm : goal.invariant-loop-arm
invariant-loop-arm l = default_arm (map choice_of (drop l.arm-index l.arm-items)) ≡ default_arm
    (map choice_of l.arms.items)
