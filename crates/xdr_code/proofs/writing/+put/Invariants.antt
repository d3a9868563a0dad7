use Rattle.std.proofs.Common.{◌≡◌, ◌++◌, map, drop}
use Rattle.xdr_value.specs.View.{kind_of, types_of, values_of, part_of}
use Rattle.xdr_value.specs.Fits.{PartsFit, AllFit}
use Rattle.xdr_value.specs.Spelling.{parts_spelling, all_spelling}
use Rattle.xdr_code.proofs.writing.+put.Given as goal

abbrev pub invariant-put_all-loop-item : goal.invariant-put_all-loop-item
invariant-put_all-loop-item l = record {
  fits : AllFit (types_of l.iface.types.items) (kind_of l.of) (values_of (drop l.item-index l.item-items));
  told : l.out.items ++ all_spelling (types_of l.iface.types.items) (kind_of l.of)
      (values_of (drop l.item-index l.item-items)) ≡
      l.fn.out.items ++ all_spelling (types_of l.iface.types.items) (kind_of l.of) (values_of l.items.items);
}

abbrev pub invariant-put_parts-loop-i : goal.invariant-put_parts-loop-i
invariant-put_parts-loop-i l = record {
  fits : PartsFit (types_of l.iface.types.items) (map part_of (drop l.i l.fields.items))
      (values_of (drop l.i l.items.items));
  told : l.out.items ++ parts_spelling (types_of l.iface.types.items) (map part_of (drop l.i l.fields.items))
      (values_of (drop l.i l.items.items)) ≡ l.fn.out.items ++ parts_spelling (types_of l.iface.types.items)
      (map part_of l.fields.items) (values_of l.items.items);
}
