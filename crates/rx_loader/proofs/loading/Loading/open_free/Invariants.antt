use Rattle.std.proofs.Common.{◌≡◌, ◌-◌, None}
use Rattle.rx_load.specs.Loads.{opens_free}
use Rattle.rx_loader.proofs.Made.{OnwardLoad}
use Rattle.rx_stage.specs.Shown.{script_of}
use Rattle.rx_stage.specs.Tells.{told}
use Rattle.rx_loader.proofs.loading.Loading.open_free.Given as goal

-- what follows the calls that were opened so far is what follows the beginning
abbrev pub invariant-loop-made : goal.invariant-loop-made
invariant-loop-made g l = record {
  onward : OnwardLoad (opens_free l.calls 4 l.client) (opens_free l.calls (4 - l.made) l.client) l.fn.self l.self
      (told (g.J.Journal.told l.fn.book) None 0) (told (g.J.Journal.told l.book) None 0);
  script : script_of l.self.world ≡ script_of l.fn.self.world;
  rounds : l.self.rounds ≡ l.fn.self.rounds;
}
