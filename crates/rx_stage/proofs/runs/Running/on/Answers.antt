use Rattle.std.proofs.Common.{subst}
use Rattle.rx_jobs.specs.Handlers.{handlers_of}
use Rattle.rx_stage.specs.Showing.{Made}
use Rattle.rx_stage.specs.Shown.{Shows, script_of}
use Rattle.rx_stage.specs.Tells.{told}
use Rattle.rx_stage.proofs.Ending.{runs_answered}
use Rattle.rx_stage.proofs.runs.Running.on.Goals as goal

pub returns : goal.returns
returns g c =
    let h = handlers_of c.args.iface.now (script_of c.args.self.world) in
    let a = told (g.J.Journal.told c.args.book.now) (g.O.Sink.told c.args.out.now) (g.O.Sink.faults c.args.out.now) in
    let b = told (g.J.Journal.told c.make_lines.new.book) (g.O.Sink.told c.make_lines.new.out)
    (g.O.Sink.faults c.make_lines.new.out) in
    λ p shows.
    runs_answered h c.args.plan.now c.args.rest.now p c.make_lines.new.self.world c.answers.result a b _
    (subst (λ r. Made h c.args.rest.now p (Shows c.make_lines.new.self.world) r a b) (c.in_ok-make_lines.was)
    (c.make_lines.ensures.made p shows))
    (c.answers.ensures (g.J.Journal.told c.make_lines.new.book))
