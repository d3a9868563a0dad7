use Rattle.xdr_value.specs.View.{kind_of, types_of, procs_of}
use Rattle.xdr_value.proofs.Filled.{zero_fits}
use Rattle.xdr_value.proofs.zeros.zero.Goals as goal

pub returns-clause-fits : goal.returns-clause-fits
returns-clause-fits c =
    rw c.in_ok-zero_among.ensures (zero_fits (types_of c.args.iface.now.types.items)
    (procs_of c.args.iface.now.procs.items) c.args.iface.now.sound (kind_of c.args.ty.now) c.requires)
