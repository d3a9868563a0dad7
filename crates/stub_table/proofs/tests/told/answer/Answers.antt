use Rattle.std.proofs.Common.{arith}
use Rattle.stub_table.proofs.Known.{proc_at}
use Rattle.stub_table.proofs.tests.told.answer.Goals as goal

pub reply-requires : goal.reply-requires
reply-requires c = proc_at c.args.iface.now.procs.items c.args.index c.index-p.result.now
    (omega (arith, c.if-index-len.false, c.len.ensures, c.args.iface.now.procs.ok.0)) c.index-p.ensures
