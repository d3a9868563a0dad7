use Rattle.xdr_value.specs.View.{types_of, procs_of, proc_of}
use Rattle.stub_table.proofs.Opcodes.{found_known}
use Rattle.stub_table.proofs.reading.read_seen.Goals as goal

pub read_args-requires-clause-known : goal.read_args-requires-clause-known
read_args-requires-clause-known c =
    found_known (types_of c.args.iface.now.types.items) (procs_of c.args.iface.now.procs.items) c.in-Some.opcode
    (c.in-Some-with_opcode.found.0, proc_of c.in-Some-with_opcode.found.1.now) c.args.iface.now.sound
    c.in-Some-with_opcode.ensures.found
