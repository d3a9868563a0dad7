use Rattle.std.proofs.Common.{◌≡◌, drop, map}
use Rattle.xdr_value.specs.View.{types_of, choice_of}
use Rattle.xdr_value.specs.Heads.{arm_kind}
use Rattle.xdr_value.specs.Tests.{kinds_known}
use Rattle.xdr_value.proofs.names.arms_known.Given as goal

abbrev pub invariant-loop-arm : goal.invariant-loop-arm
invariant-loop-arm l = kinds_known (types_of l.types) (map arm_kind (map choice_of (drop l.arm-index l.arm-items))) ≡
    kinds_known (types_of l.types) (map arm_kind (map choice_of l.arms.items))
