use Rattle.std.proofs.Common.{◌≡◌, map, drop}
use Rattle.serde_json.specs.Data.{no_members}
use Rattle.serde_json.specs.View.{items_view, members_view}
use Rattle.xdr_value.specs.View.{kind_of, types_of, values_of, part_of}
use Rattle.xdr_value.specs.Fits.{PartsFit, AllFit}
use Rattle.xdr_json.specs.Bytes.{AllAreBytes}
use Rattle.xdr_json.specs.Json.{members_json, elements_json}
use Rattle.xdr_json.proofs.Lists.{joined}
use Rattle.xdr_json.proofs.printing.+json.Given as goal

abbrev pub invariant-members_json-loop-i : goal.invariant-members_json-loop-i
invariant-members_json-loop-i l = record {
  fits : PartsFit (types_of l.iface.types.items) (map part_of (drop l.i l.fields.items))
      (values_of (drop l.i l.items.items));
  held : AllAreBytes (values_of (drop l.i l.items.items)) → AllAreBytes (values_of l.items.items);
  told : members_json (types_of l.iface.types.items) (map part_of (drop l.i l.fields.items))
      (values_of (drop l.i l.items.items))
      (members_view l.members.entries)
      ≡ members_json (types_of l.iface.types.items) (map part_of l.fields.items) (values_of l.items.items) no_members;
}

abbrev pub invariant-elements_json-loop-item : goal.invariant-elements_json-loop-item
invariant-elements_json-loop-item l = record {
  fits : AllFit (types_of l.iface.types.items) (kind_of l.of) (values_of (drop l.item-index l.item-items));
  held : AllAreBytes (values_of (drop l.item-index l.item-items)) → AllAreBytes (values_of l.items.items);
  told : joined (items_view l.elements.items)
      (elements_json (types_of l.iface.types.items) (kind_of l.of) (values_of (drop l.item-index l.item-items)))
      ≡ elements_json (types_of l.iface.types.items) (kind_of l.of) (values_of l.items.items);
}
