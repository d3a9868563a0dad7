use Rattle.rx_joint.proofs.Standing.{client_asked}
use Rattle.rx_joint.proofs.nodes.Nodes.ask.Goals as goal

pub returns-clause-made : goal.returns-clause-made
returns-clause-made c = client_asked _ _ _ _ c.requires.0 c.client.ensures c.end-got.ensures.answered
