use Rattle.std.proofs.Common.{◌≡◌, ◌+◌, take}
use Rattle.rx_jobs.specs.Handlers.{handlers_of}
use Rattle.rx_plan.specs.Follows.{Progress}
use Rattle.rx_stage.specs.Showing.{IsCounted, ShowsRun}
use Rattle.rx_stage.specs.Shown.{script_of}
use Rattle.rx_stage.specs.Tells.{told}
use Rattle.rx_stage.proofs.LinesGone.{Behind}
use Rattle.rx_stage.proofs.runs.Running.make_lines.Given as goal

abbrev pub invariant-loop-before : goal.invariant-loop-before
invariant-loop-before g l = record {
  counted : IsCounted l.self;
  script : script_of l.self.world ≡ script_of l.fn.self.world;
  behind : (p : Progress) → ShowsRun l.fn.self 1 p
      → Behind (handlers_of l.iface (script_of l.fn.self.world)) (take l.before l.rest) p (ShowsRun l.self
      (l.before + 1))
      (told (g.J.Journal.told l.fn.book) (g.O.Sink.told l.fn.out) (g.O.Sink.faults l.fn.out))
      (told (g.J.Journal.told l.book) (g.O.Sink.told l.out) (g.O.Sink.faults l.out));
}
