use Rattle.rx_joint.proofs.Standing.{client_makes}
use Rattle.rx_joint.proofs.nodes.Nodes.cancel.Goals as goal

pub returns-clause-made : goal.returns-clause-made
returns-clause-made c =
    client_makes _ _ _ _ _ c.requires.there.0 c.client_mut.ensures.value c.cancel-got.ensures.answered
    c.cancel-got.ensures.setup
