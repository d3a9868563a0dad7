use Rattle.std.proofs.Common.{ap, arith}
use Rattle.rx_joint.specs.Nodes.{NodesState}
use Rattle.rx_joint.proofs.Times.{client_moment, server_moment}
use Rattle.rx_joint.proofs.nodes.Nodes.moment.Goals as goal

pub returns-then-node-eq-SERVER-clause-exact : goal.returns-then-node-eq-SERVER-clause-exact
returns-then-node-eq-SERVER-clause-exact c =
    server_moment _ _ _ _ (ap (λ (m : NodesState). m.server) c.self.view_is) c.if-node-eq-SERVER.true
    c.moment.ensures.exact

pub returns-clause-exact : goal.returns-clause-exact
returns-clause-exact c = client_moment _ _ _ _ (omega arith) c.client.ensures c.moment-2.ensures.exact
