use Rattle.std.proofs.Common.{◌≡◌, None, drop}
use Rattle.rx_loader.proofs.Made.{connecting}
use Rattle.rx_plan.specs.Network.{below}
use Rattle.rx_plan.specs.Parts.{each}
use Rattle.rx_stage.specs.Shown.{Plays, script_of}
use Rattle.rx_stage.specs.Tells.{told}
use Rattle.rx_loader.proofs.loading.Loading.connect_all.Given as goal

-- the clients so far are connected, and nothing else changed
abbrev pub invariant-loop-client : goal.invariant-loop-client
invariant-loop-client g l = record {
  plays : Plays (each connecting (drop 1 (below l.client))) l.fn.self.world l.self.world None
      (told (g.J.Journal.told l.fn.book) None 0) (told (g.J.Journal.told l.book) None 0);
  rest : l.self ≡ record l.fn.self { world = l.self.world };
  script : script_of l.self.world ≡ script_of l.fn.self.world;
}
