use Rattle.std.proofs.Common.{◌≡◌, None, length}
use Rattle.rx_plan.specs.Network.{below, comes_to}
use Rattle.rx_plan.specs.Parts.{each}
use Rattle.rx_stage.specs.Shown.{PlaysNodes}
use Rattle.rx_stage.specs.Tells.{told}
use Rattle.rx_stage.proofs.network_lines.deliver.Given as goal

abbrev pub invariant-loop-node : goal.invariant-loop-node
invariant-loop-node g l = record {
  plays : PlaysNodes (each (comes_to l.datagram) (below l.node)) l.fn.nodes l.nodes None
      (told (g.J.Journal.told l.fn.book) (g.O.Sink.told l.fn.out) (g.O.Sink.faults l.fn.out))
      (told (g.J.Journal.told l.book) (g.O.Sink.told l.out) (g.O.Sink.faults l.out));
  count : length l.nodes.clients ≡ length l.fn.nodes.clients;
}
