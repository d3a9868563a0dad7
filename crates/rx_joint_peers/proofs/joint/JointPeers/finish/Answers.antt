use Rattle.rx_joint_peers.proofs.Standing.{served_makes}
use Rattle.rx_joint_peers.proofs.joint.JointPeers.finish.Goals as goal

pub returns-clause-made : goal.returns-clause-made
returns-clause-made c =
    served_makes _ _ _ _ _ c.requires.0 c.peer_mut.ensures.value c.finish-got.ensures.answered
    c.finish-got.ensures.setup tt
