use Rattle.std.proofs.Common.{◌≡◌, refl, arith, Err}
use Rattle.xdr_value.specs.View.{types_of, values_of, proc_of}
use Rattle.stub_table.specs.declared.stream.Stream.TheVariants as streams
use Rattle.stub_table.proofs.Fronts.{read_stream, values_read, none_spelled}
use Rattle.stub_table.proofs.reading.read_reply.Goals as goal

pub returns-in-Ok : goal.returns-in-Ok
returns-in-Ok c =
    let read = values_read (types_of c.args.iface.now.types.items) streams.Reply (proc_of c.args.p.now) c.args.bytes.now
    c.in-Ok.field-0-1.now (values_of c.in-Ok.values.items) (λ i. omega (arith, c.type_inv.bytes i))
    c.in-Ok.ensures in
    (read.0, c.in-Ok.field-0-1.now, read.1)

pub returns-in-Fault : goal.returns-in-Fault
returns-in-Fault c =
    let failed : read_stream (types_of c.args.iface.now.types.items) streams.Reply (proc_of c.args.p.now)
    c.args.bytes.now ≡ Err c.in-Fault.field-0 = rw c.in-Fault.is at c.in-Err.ensures in (
      refl,
      none_spelled (types_of c.args.iface.now.types.items) streams.Reply (proc_of c.args.p.now) c.args.bytes.now
          c.in-Fault.field-0 failed,
    )
