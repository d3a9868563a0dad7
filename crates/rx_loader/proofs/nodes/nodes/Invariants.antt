-- the nodes so far
use Rattle.std.proofs.Common.{◌≡◌, ◌≤◌, [], take}
use Rattle.rx_load.specs.Loads.{load_nodes}
use Rattle.rx_joint.specs.Nodes.{Standing, nodes_of}
use Rattle.rx_loader.proofs.nodes.nodes.Given as goal

abbrev pub invariant-loop-client : goal.invariant-loop-client
invariant-loop-client l = record {
  from_one : 1 ≤ l.client;
  made : nodes_of l.nodes ≡ take l.client load_nodes;
  stands : Standing l.nodes [];
}
