use Rattle.std.proofs.Common.{◌∷◌, sym, subst}
use Rattle.rx_jobs.specs.Handlers.{handlers_of}
use Rattle.rx_script.specs.Saying.{blocks_of}
use Rattle.rx_stage.specs.Runs.{RunIs}
use Rattle.rx_stage.specs.Showing.{RunsOn, outcome_of}
use Rattle.rx_stage.specs.Tells.{told}
use Rattle.rx_stage.proofs.Ending.{run_on, run_refused}
use Rattle.rx_stage.proofs.runs.run_lines.Goals as goal

pub returns-in-Ok : goal.returns-in-Ok
returns-in-Ok g c =
    let h = handlers_of c.args.iface.now (blocks_of c.args.script.blocks.items) in
    let o = outcome_of c.on.result in
    let a = told (g.J.Journal.told c.args.book.now) (g.O.Sink.told c.args.out.now) (g.O.Sink.faults c.args.out.now) in
    let b = told (g.J.Journal.told c.on.new.book) (g.O.Sink.told c.on.new.out) (g.O.Sink.faults c.on.new.out) in
    subst (λ ls. RunIs h ls o a b) (sym c.requires.whole)
    (run_on h c.args.first.now c.args.rest.now c.in-Ok.run' o a b c.in-Ok.ensures.begun (λ p shows.
    subst (λ ls. RunsOn h ls c.args.rest.now p o a b) c.requires.whole
    (subst (λ s. RunsOn (handlers_of c.args.iface.now s) c.args.plan.now c.args.rest.now p o a b) c.in-Ok.ensures.script
    (c.on.ensures p shows))))

pub returns-in-Err : goal.returns-in-Err
returns-in-Err g c =
    let h = handlers_of c.args.iface.now (blocks_of c.args.script.blocks.items) in
    let a = told (g.J.Journal.told c.args.book.now) (g.O.Sink.told c.args.out.now) (g.O.Sink.faults c.args.out.now) in
    subst (λ ls. RunIs h ls c.ended.result a a) (sym c.requires.whole)
    (subst (λ o. RunIs h (c.args.first.now ∷ c.args.rest.now) o a a) (sym c.ended.ensures)
    (run_refused h c.args.first.now c.args.rest.now c.in-Err.stop a c.in-Err.ensures.begun))
