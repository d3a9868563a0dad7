use Rattle.std.proofs.Common.{◌≡◌, ◌+◌, ◌*◌, ◌-◌, map, drop}
use Rattle.xdr_value.specs.View.{kind_of, types_of, values_of, part_of}
use Rattle.xdr_code.specs.Reading.{parts_at, elements_at, value_at}
use Rattle.xdr_code.proofs.Loop.{with_front}
use Rattle.xdr_code.proofs.reading.+value.Given as goal

abbrev pub decreases-value : goal.decreases-value
decreases-value l = 6 * l.levels + 1

abbrev pub decreases-headed : goal.decreases-headed
decreases-headed l = 6 * l.levels

abbrev pub decreases-parts : goal.decreases-parts
decreases-parts l = 6 * l.levels + 3

abbrev pub decreases-elements : goal.decreases-elements
decreases-elements l = 6 * l.levels + 4

abbrev pub decreases-elements_in : goal.decreases-elements_in
decreases-elements_in l = 6 * l.levels + 3

abbrev pub decreases-chosen_arm : goal.decreases-chosen_arm
decreases-chosen_arm l = 6 * l.levels + 3

abbrev pub decreases-arm : goal.decreases-arm
decreases-arm l = 6 * l.levels + 2

abbrev pub decreases-headed_onto : goal.decreases-headed_onto
decreases-headed_onto l = 6 * l.levels + 1

abbrev pub decreases-part_onto : goal.decreases-part_onto
decreases-part_onto l = 6 * l.levels + 2

abbrev pub decreases-struct_onto : goal.decreases-struct_onto
decreases-struct_onto l = 6 * l.levels + 4

abbrev pub decreases-element_onto : goal.decreases-element_onto
decreases-element_onto l = 6 * l.levels + 2

abbrev pub decreases-inside : goal.decreases-inside
decreases-inside l = 6 * l.levels + 5

abbrev pub decreases-optional : goal.decreases-optional
decreases-optional l = 6 * l.levels + 2

abbrev pub invariant-elements_in-loop : goal.invariant-elements_in-loop
invariant-elements_in-loop l = with_front (values_of l.items.items)
    (elements_at (value_at l.levels (types_of l.iface.types.items)) (kind_of l.of) (l.n - l.counter) l.rest) ≡
    elements_at
    (value_at l.levels (types_of l.iface.types.items)) (kind_of l.of) l.n l.bytes

abbrev pub invariant-parts-loop-field : goal.invariant-parts-loop-field
invariant-parts-loop-field l = with_front (values_of l.items.items)
    (parts_at (value_at l.levels (types_of l.iface.types.items)) (map part_of (drop l.field-index l.field-items))
    l.rest) ≡
    parts_at (value_at l.levels (types_of l.iface.types.items)) (map part_of l.fields.items) l.bytes
