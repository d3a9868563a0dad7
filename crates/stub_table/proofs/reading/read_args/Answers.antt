use Rattle.std.proofs.Common.{arith}
use Rattle.xdr_value.specs.View.{types_of, values_of, proc_of}
use Rattle.stub_table.specs.declared.stream.Stream.TheVariants as streams
use Rattle.stub_table.proofs.Fronts.{rest_within}
use Rattle.stub_table.proofs.reading.read_args.Goals as goal

pub overflow_sub-result : goal.overflow_sub-result
overflow_sub-result c =
    let shorter = rest_within (types_of c.args.iface.now.types.items) streams.Request (proc_of c.args.found.1.now)
    c.args.bytes.now c.in-Ok.left.now (values_of c.in-Ok.args.items) (λ i. omega (arith, c.type_inv.bytes i))
    c.in-Ok.ensures in
    omega (arith, shorter, c.requires.within)
