use Rattle.xdr_value.specs.View.{types_of, procs_of, proc_of}
use Rattle.stub_table.proofs.Known.{params_are_known}
use Rattle.stub_table.proofs.writing.reply.Goals as goal

pub values_fit-requires : goal.values_fit-requires
values_fit-requires c = params_are_known (types_of c.args.iface.now.types.items) (procs_of c.args.iface.now.procs.items)
    (proc_of c.args.p.now) c.args.iface.now.sound c.requires
