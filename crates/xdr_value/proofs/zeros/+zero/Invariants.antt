use Rattle.std.proofs.Common.{◌≡◌, ◌+◌, ◌*◌, take, map}
use Rattle.xdr_value.specs.View.{values_of, types_of, part_of}
use Rattle.xdr_value.specs.Zero.{parts_zero, name_zero}
use Rattle.xdr_value.proofs.zeros.+zero.Given as goal

abbrev pub decreases-name_zero : goal.decreases-name_zero
decreases-name_zero l = 5 * l.hops

abbrev pub decreases-core_zero : goal.decreases-core_zero
decreases-core_zero l = 5 * l.hops + 1

abbrev pub decreases-ty_zero : goal.decreases-ty_zero
decreases-ty_zero l = 5 * l.hops + 2

abbrev pub decreases-fields_zero : goal.decreases-fields_zero
decreases-fields_zero l = 5 * l.hops + 3

abbrev pub decreases-arm_zero : goal.decreases-arm_zero
decreases-arm_zero l = 5 * l.hops + 3

abbrev pub decreases-union_zero : goal.decreases-union_zero
decreases-union_zero l = 5 * l.hops + 4

abbrev pub invariant-fields_zero-loop-field : goal.invariant-fields_zero-loop-field
invariant-fields_zero-loop-field l = values_of l.items.items ≡ parts_zero
    (name_zero l.hops (types_of l.iface.types.items))
    (map part_of (take l.field-index l.field-items))
