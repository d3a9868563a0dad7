use Rattle.std.proofs.Common.{arith}
use Rattle.rx_joint.proofs.Standing.{client_makes, server_made}
use Rattle.rx_joint.proofs.nodes.Nodes.clock.Goals as goal

pub returns-then-node-eq-SERVER-clause-made : goal.returns-then-node-eq-SERVER-clause-made
returns-then-node-eq-SERVER-clause-made c =
    server_made _ _ _ _ _ c.if-node-eq-SERVER.true c.server_mut.ensures.value c.clock.ensures.answered
    c.clock.ensures.setup

pub returns-clause-made : goal.returns-clause-made
returns-clause-made c =
    client_makes _ _ _ _ _ (omega arith) c.client_mut.ensures.value c.clock-2.ensures.answered c.clock-2.ensures.setup
