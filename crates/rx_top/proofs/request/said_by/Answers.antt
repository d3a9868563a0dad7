use Rattle.stub_table.proofs.Known.{params_are_known}
use Rattle.xdr_value.specs.View.{proc_of, procs_of, types_of}
use Rattle.rx_top.proofs.request.said_by.Goals as goal

pub args_from_json-requires : goal.args_from_json-requires
args_from_json-requires c =
    rw c.deref.ensures.value (params_are_known (types_of c.args.iface.now.types.items)
    (procs_of c.args.iface.now.procs.items) (proc_of c.args.p.now) c.args.iface.now.sound c.requires)
