use Rattle.std.proofs.Common.{refl}
use Rattle.rx_joint_peers.proofs.Standing.{half_makes}
use Rattle.rx_joint_peers.proofs.joint.JointPeers.took.Goals as goal

pub returns-clause-made : goal.returns-clause-made
returns-clause-made c =
    half_makes _ _ _ _ _ _ c.requires.0 c.peer_mut.ensures.value c.take.ensures.answered c.take.ensures.setups refl
