use Rattle.std.proofs.Common.{◌≡◌, map, drop}
use Rattle.xdr_value.specs.View.{types_of, values_of, param_of}
use Rattle.xdr_value.specs.declared.levels.TheConstants.{MAX_LEVELS}
use Rattle.xdr_code.specs.Reading.{parts_at, value_at}
use Rattle.xdr_code.proofs.Loop.{with_front}
use Rattle.stub_table.specs.Streams.{parts_with}
use Rattle.stub_table.proofs.stream.read_values.Given as goal

abbrev pub invariant-loop-arg : goal.invariant-loop-arg
invariant-loop-arg l =
    with_front (values_of l.values.items) (parts_at (value_at MAX_LEVELS (types_of l.iface.types.items))
    (parts_with l.stream (map param_of (drop l.arg-index l.arg-items))) l.rest)
    ≡ parts_at (value_at MAX_LEVELS (types_of l.iface.types.items)) (parts_with l.stream (map param_of l.args.items))
    l.bytes
