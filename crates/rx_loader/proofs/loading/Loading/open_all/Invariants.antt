use Rattle.std.proofs.Common.{◌≡◌, None, drop}
use Rattle.rx_load.specs.Loads.{opens_free}
use Rattle.rx_loader.specs.Showing.{PlaysLoad}
use Rattle.rx_plan.specs.Network.{below}
use Rattle.rx_plan.specs.Parts.{each}
use Rattle.rx_stage.specs.Shown.{script_of}
use Rattle.rx_stage.specs.Tells.{told}
use Rattle.rx_loader.proofs.loading.Loading.open_all.Given as goal

-- the clients so far opened their calls
abbrev pub invariant-loop-client : goal.invariant-loop-client
invariant-loop-client g l = record {
  plays : PlaysLoad (each (opens_free l.calls 4) (drop 1 (below l.client))) l.fn.self l.self None
      (told (g.J.Journal.told l.fn.book) None 0) (told (g.J.Journal.told l.book) None 0);
  script : script_of l.self.world ≡ script_of l.fn.self.world;
  rounds : l.self.rounds ≡ l.fn.self.rounds;
}
