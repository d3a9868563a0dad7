use Rattle.std.proofs.Common.{arith}
use Rattle.stub_table.proofs.Known.{proc_at}
use Rattle.stub_table.proofs.tests.told.send.Goals as goal

pub request-requires : goal.request-requires
request-requires c = proc_at c.args.iface.now.procs.items c.args.index c.index-p.result.now
    (omega (arith, c.if-index-len.false, c.len.ensures, c.args.iface.now.procs.ok.0)) c.index-p.ensures
