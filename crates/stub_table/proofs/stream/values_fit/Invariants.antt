use Rattle.std.proofs.Common.{◌≡◌, ◌↔◌, true, map, drop}
use Rattle.xdr_value.specs.Tests.{params_known}
use Rattle.xdr_value.specs.View.{types_of, values_of, param_of}
use Rattle.stub_table.specs.Streams.{parts_with, PartsFitWithin}
use Rattle.stub_table.proofs.stream.values_fit.Given as goal

abbrev pub invariant-loop-arg : goal.invariant-loop-arg
invariant-loop-arg l = record {
  known : params_known (types_of l.iface.types.items) (map param_of (drop l.arg-index l.arg-items)) ≡ true;
  same : PartsFitWithin (types_of l.iface.types.items)
      (parts_with l.stream (map param_of (drop l.arg-index l.arg-items))) (values_of l.left)
      ↔ PartsFitWithin (types_of l.iface.types.items) (parts_with l.stream (map param_of l.args.items))
      (values_of l.values);
}
