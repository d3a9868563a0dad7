use Rattle.std.proofs.Common.{arith}
use Rattle.stub_table.proofs.Known.{proc_at}
use Rattle.stub_table.proofs.tests.told.receive.Goals as goal

pub read_reply-requires : goal.read_reply-requires
read_reply-requires c = proc_at c.args.iface.now.procs.items c.args.index c.index-p.result.now
    (omega (arith, c.if-index-len.false, c.len.ensures, c.args.iface.now.procs.ok.0)) c.index-p.ensures
