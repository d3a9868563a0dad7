use Rattle.rx_joint_peers.proofs.Standing.{caller_asked}
use Rattle.rx_joint_peers.proofs.joint.JointPeers.ask.Goals as goal

pub returns-clause-made : goal.returns-clause-made
returns-clause-made c = caller_asked _ _ _ _ c.requires.0 c.peer.ensures c.end-got.ensures.answered tt
