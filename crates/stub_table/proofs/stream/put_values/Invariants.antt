use Rattle.std.proofs.Common.{◌≡◌, ◌++◌, map, drop}
use Rattle.xdr_value.specs.Spelling.{parts_spelling}
use Rattle.xdr_value.specs.View.{types_of, values_of, param_of}
use Rattle.stub_table.specs.Streams.{parts_with, PartsFitWithin}
use Rattle.stub_table.proofs.stream.put_values.Given as goal

abbrev pub invariant-loop-arg : goal.invariant-loop-arg
invariant-loop-arg l = record {
  fits : PartsFitWithin (types_of l.iface.types.items)
      (parts_with l.stream (map param_of (drop l.arg-index l.arg-items))) (values_of l.left);
  told : l.out.items ++ parts_spelling (types_of l.iface.types.items)
      (parts_with l.stream (map param_of (drop l.arg-index l.arg-items))) (values_of l.left)
      ≡ l.fn.out.items ++ parts_spelling (types_of l.iface.types.items)
      (parts_with l.stream (map param_of l.args.items)) (values_of l.values);
}
