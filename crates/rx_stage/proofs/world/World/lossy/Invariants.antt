use Rattle.std.proofs.Common.{◌≡◌, ◌-◌}
use Rattle.rx_jobs.specs.Handlers.{handlers_of}
use Rattle.rx_plan.specs.Lossy.{lossy, lossy_rounds}
use Rattle.rx_stage.specs.Shown.{script_of}
use Rattle.rx_stage.specs.Tells.{told}
use Rattle.rx_stage.proofs.LossyRounds.{OnwardLossy}
use Rattle.rx_stage.proofs.world.World.lossy.Given as goal

-- what follows the rounds made so far is what follows the beginning
abbrev pub invariant-loop-made : goal.invariant-loop-made
invariant-loop-made g l = record {
  onward : OnwardLossy (lossy (handlers_of l.iface (script_of l.fn.self)) l.number l.count)
      (lossy_rounds (handlers_of l.iface (script_of l.fn.self)) (l.count - l.made)) l.fn.self l.self l.network.words
      l.network.held.items
      (told (g.J.Journal.told l.fn.book) (g.O.Sink.told l.fn.out) (g.O.Sink.faults l.fn.out))
      (told (g.J.Journal.told l.book) (g.O.Sink.told l.out) (g.O.Sink.faults l.out));
  script : script_of l.self ≡ script_of l.fn.self;
}
