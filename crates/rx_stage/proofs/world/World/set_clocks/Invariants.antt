use Rattle.std.proofs.Common.{◌≡◌, ◌≤◌, ℕ, None, drop, length}
use Rattle.rx_joint.specs.Nodes.{moment_of}
use Rattle.rx_plan.specs.Network.{below}
use Rattle.rx_plan.specs.Parts.{each}
use Rattle.rx_stage.specs.Shown.{Plays, script_of}
use Rattle.rx_stage.specs.Tells.{told}
use Rattle.rx_stage.proofs.Clocking.{sets}
use Rattle.rx_stage.proofs.world.World.set_clocks.Given as goal

abbrev pub invariant-loop-node : goal.invariant-loop-node
invariant-loop-node g l = record {
  plays : Plays (each (sets l.now) (drop 1 (below l.node))) l.fn.self l.self None
      (told (g.J.Journal.told l.fn.book) (g.O.Sink.told l.fn.out) (g.O.Sink.faults l.fn.out))
      (told (g.J.Journal.told l.book) (g.O.Sink.told l.out) (g.O.Sink.faults l.out));
  count : length l.self.nodes.clients ≡ length l.fn.self.nodes.clients;
  early : (k : ℕ) → l.node ≤ k → moment_of l.self.nodes k ≤ l.now;
  server : moment_of l.self.nodes 0 ≤ l.now;
  script : script_of l.self ≡ script_of l.fn.self;
}
