use Rattle.rx_joint_peers.proofs.Standing.{caller_makes}
use Rattle.rx_joint_peers.proofs.joint.JointPeers.shut.Goals as goal

pub returns-clause-made : goal.returns-clause-made
returns-clause-made c =
    caller_makes _ _ _ _ _ c.requires.0 c.peer_mut.ensures.value c.shut-got.ensures.answered c.shut-got.ensures.setup tt
