use Rattle.rx_script.specs.Saying.{blocks_of}
use Rattle.rx_jobs.specs.Handlers.{handlers_of}
use Rattle.std.proofs.Common.{◌≡◌, length, subst}
use Rattle.rx_stage.specs.Tells.{told}
use Rattle.rx_stage.proofs.Ending.{run_empty}
use Rattle.rx_stage.proofs.RunKeeps.{run_keeps}
use Rattle.rx_stage.proofs.runs.run.Goals as goal

pub returns-in-None-clause-run : goal.returns-in-None-clause-run
returns-in-None-clause-run g c =
    run_empty _ c.args.plan.now.lines.items
    (told (g.J.Journal.told c.args.book.now) (g.O.Sink.told c.args.out.now) (g.O.Sink.faults c.args.out.now))
    (subst (λ ls. length ls ≡ 0) c.deref.ensures.value c.in-None.ensures.cases)

pub returns-in-None-clause-headline : goal.returns-in-None-clause-headline
returns-in-None-clause-headline g c =
    run_keeps (handlers_of c.args.iface.now (blocks_of c.args.script.blocks.items)) c.args.plan.now.lines.items _ _ _
    c.requires

pub returns-in-Some-clause-headline : goal.returns-in-Some-clause-headline
returns-in-Some-clause-headline g c =
    run_keeps (handlers_of c.args.iface.now (blocks_of c.args.script.blocks.items)) c.args.plan.now.lines.items _ _ _
    c.requires
