use Rattle.rx_joint.proofs.Standing.{client_makes}
use Rattle.rx_joint.proofs.nodes.Nodes.call.Goals as goal

pub returns-clause-made : goal.returns-clause-made
returns-clause-made c =
    client_makes _ _ _ _ _ c.requires.0 c.client_mut.ensures.value c.call-got.ensures.answered c.call-got.ensures.setup
