use Rattle.std.proofs.Common.{arith}
use Rattle.rx_joint.proofs.Standing.{client_makes, server_made}
use Rattle.rx_joint.proofs.nodes.Nodes.polled_counted.Goals as goal

pub returns-then-node-eq-SERVER : goal.returns-then-node-eq-SERVER
returns-then-node-eq-SERVER g c =
    server_made _ _ _ _ _ c.if-node-eq-SERVER.true c.server_mut.ensures.value c.poll.ensures.answered
    c.poll.ensures.setup

pub returns : goal.returns
returns g c =
    client_makes _ _ _ _ _ (omega arith) c.client_mut.ensures.value c.poll-2.ensures.answered c.poll-2.ensures.setup
