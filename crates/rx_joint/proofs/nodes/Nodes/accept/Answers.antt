use Rattle.std.proofs.Common.{refl}
use Rattle.rx_joint.proofs.Standing.{server_made}
use Rattle.rx_joint.proofs.nodes.Nodes.accept.Goals as goal

pub returns-clause-made : goal.returns-clause-made
returns-clause-made c =
    server_made _ _ _ _ _ refl c.server_mut.ensures.value c.accept-got.ensures.answered c.accept-got.ensures.setup
