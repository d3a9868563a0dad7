use Rattle.std.proofs.Common.{◌≡◌, List, map}
use Rattle.std.specs.List.{list_any}
use Rattle.rx_model.specs.declared.event.Noted.{Noted}
use Rattle.rx_joint.specs.Nodes.{ClientsStand, client_node}
use Rattle.rx_events.specs.Waits.{lives_at, over_nodes}
use Rattle.rx_joint.proofs.Waiting.{passes_from}
use Rattle.rx_joint.proofs.nodes.waits.any_client_lives.Given as goal

abbrev pub invariant-loop-at : goal.invariant-loop-at
invariant-loop-at l = (h : List Noted) → ClientsStand l.clients h
    → list_any (λ b. b) (over_nodes (lives_at h) 1 (map client_node l.clients)) ≡ passes_from (lives_at h) l.clients
    l.at-index
