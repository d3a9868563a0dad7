use Rattle.std.proofs.Common.{◌≡◌, List, map}
use Rattle.rx_model.specs.declared.event.Noted.{Noted}
use Rattle.rx_joint.specs.Nodes.{ClientsStand, client_node}
use Rattle.rx_events.specs.Waits.{least_of, lesser, over_nodes, wait_at}
use Rattle.rx_joint.proofs.Times.{least_from}
use Rattle.rx_joint.proofs.nodes.waits.least_of_clients.Given as goal

abbrev pub invariant-loop-at : goal.invariant-loop-at
invariant-loop-at g l = (h : List Noted) → ClientsStand l.clients h
    → lesser l.fn.first (least_of (over_nodes (wait_at h) 1 (map client_node l.clients)))
    ≡ lesser l.least (least_from h l.clients l.at-index)
