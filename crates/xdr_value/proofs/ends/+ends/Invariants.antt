use Rattle.std.proofs.Common.{◌≡◌, ◌+◌, ◌*◌, drop, map}
use Rattle.xdr_value.specs.View.{types_of, part_of, choice_of}
use Rattle.xdr_value.specs.Heads.{arm_kind}
use Rattle.xdr_value.specs.Facts.{part_kinds}
use Rattle.xdr_value.specs.Tests.{kinds_end, name_ends}
use Rattle.xdr_value.proofs.ends.+ends.Given as goal

abbrev pub decreases-chain_ends : goal.decreases-chain_ends
decreases-chain_ends l = 4 * l.hops

abbrev pub decreases-ty_ends : goal.decreases-ty_ends
decreases-ty_ends l = 4 * l.hops + 1

abbrev pub decreases-fields_end : goal.decreases-fields_end
decreases-fields_end l = 4 * l.hops + 2

abbrev pub decreases-arm_ends : goal.decreases-arm_ends
decreases-arm_ends l = 4 * l.hops + 2

abbrev pub decreases-arms_end : goal.decreases-arms_end
decreases-arms_end l = 4 * l.hops + 3

abbrev pub invariant-fields_end-loop-field : goal.invariant-fields_end-loop-field
invariant-fields_end-loop-field l = kinds_end (name_ends l.hops (types_of l.types))
    (part_kinds (map part_of (drop l.field-index l.field-items))) ≡ kinds_end (name_ends l.hops (types_of l.types))
    (part_kinds (map part_of l.fields.items))

abbrev pub invariant-arms_end-loop-arm : goal.invariant-arms_end-loop-arm
invariant-arms_end-loop-arm l = kinds_end (name_ends l.hops (types_of l.types))
    (map arm_kind (map choice_of (drop l.arm-index l.arm-items))) ≡ kinds_end (name_ends l.hops (types_of l.types))
    (map arm_kind (map choice_of l.arms.items))
