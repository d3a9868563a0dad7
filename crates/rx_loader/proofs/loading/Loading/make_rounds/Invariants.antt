use Rattle.std.proofs.Common.{◌≡◌, ◌-◌, None}
use Rattle.rx_load.specs.Loads.{load_rounds}
use Rattle.rx_load.specs.declared.limits.TheConstants.{MAX_ROUNDS}
use Rattle.rx_loader.proofs.Made.{OnwardLoad}
use Rattle.rx_stage.specs.Shown.{script_of}
use Rattle.rx_stage.specs.Tells.{told}
use Rattle.rx_loader.proofs.loading.Loading.make_rounds.Given as goal

-- what follows the rounds made so far is what follows the beginning
abbrev pub invariant-loop-made : goal.invariant-loop-made
invariant-loop-made g l = record {
  onward : OnwardLoad (load_rounds l.calls MAX_ROUNDS) (load_rounds l.calls (MAX_ROUNDS - l.made)) l.fn.self l.self
      (told (g.J.Journal.told l.fn.book) None 0) (told (g.J.Journal.told l.book) None 0);
  script : script_of l.self.world ≡ script_of l.fn.self.world;
  rounds : l.self.rounds ≡ l.made;
  err_told : g.E.Sink.told l.err ≡ g.E.Sink.told l.fn.err;
  err_faults : g.E.Sink.faults l.err ≡ g.E.Sink.faults l.fn.err;
}
