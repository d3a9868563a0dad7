use Rattle.std.proofs.Common.{◌≡◌, map}
use Rattle.rx_events.specs.Waits.{is_later}
use Rattle.rx_joint.proofs.Waiting.{later_from}
use Rattle.rx_joint.proofs.nodes.waits.is_client_later.Given as goal

abbrev pub invariant-loop-at : goal.invariant-loop-at
invariant-loop-at l = is_later l.now (map (λ c. c.client.moment) l.clients) ≡ later_from l.now l.clients l.at-index
