use Rattle.std.proofs.Common.{◌≡◌, ◌∷◌, map, max}
use Rattle.rx_events.specs.Waits.{latest}
use Rattle.rx_joint.proofs.Waiting.{latest_from}
use Rattle.rx_joint.proofs.nodes.waits.latest_of_clients.Given as goal

abbrev pub invariant-loop-at : goal.invariant-loop-at
invariant-loop-at l =
    latest (l.first ∷ map (λ c. c.client.moment) l.clients) ≡ max l.latest (latest_from l.clients l.at-index)
