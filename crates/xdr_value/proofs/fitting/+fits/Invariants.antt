use Rattle.std.proofs.Common.{◌≡◌, drop, map}
use Rattle.xdr_value.specs.View.{kind_of, types_of, part_of, values_of}
use Rattle.xdr_value.specs.Fitting.{parts_fit, all_fit}
use Rattle.xdr_value.proofs.fitting.+fits.Given as goal

abbrev pub invariant-fields_fit-loop-i : goal.invariant-fields_fit-loop-i
invariant-fields_fit-loop-i l = parts_fit (types_of l.iface.types.items) (map part_of (drop l.i l.fields.items))
    (values_of (drop l.i l.items.items)) ≡ parts_fit (types_of l.iface.types.items) (map part_of l.fields.items)
    (values_of l.items.items)

abbrev pub invariant-elements_fit-loop-item : goal.invariant-elements_fit-loop-item
invariant-elements_fit-loop-item l = all_fit (types_of l.iface.types.items) (kind_of l.of)
    (values_of (drop l.item-index l.item-items)) ≡ all_fit (types_of l.iface.types.items) (kind_of l.of)
    (values_of l.items.items)
