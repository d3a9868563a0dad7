use Rattle.std.proofs.Common.{◌≡◌, ◌+◌, ◌*◌, drop, map}
use Rattle.xdr_value.specs.View.{types_of, part_of}
use Rattle.xdr_value.specs.Hollow.{parts_hollow, name_hollow}
use Rattle.xdr_value.proofs.hollow.+hollow.Given as goal

abbrev pub decreases-name_hollow : goal.decreases-name_hollow
decreases-name_hollow l = 4 * l.hops

abbrev pub decreases-core_hollow : goal.decreases-core_hollow
decreases-core_hollow l = 4 * l.hops + 1

abbrev pub decreases-ty_hollow : goal.decreases-ty_hollow
decreases-ty_hollow l = 4 * l.hops + 2

abbrev pub decreases-fields_hollow : goal.decreases-fields_hollow
decreases-fields_hollow l = 4 * l.hops + 3

abbrev pub invariant-fields_hollow-loop-field : goal.invariant-fields_hollow-loop-field
invariant-fields_hollow-loop-field l = parts_hollow (name_hollow l.hops (types_of l.iface.types.items))
    (map part_of (drop l.field-index l.field-items)) ≡ parts_hollow (name_hollow l.hops (types_of l.iface.types.items))
    (map part_of l.fields.items)
