use Rattle.rx_joint_peers.proofs.Standing.{caller_makes}
use Rattle.rx_joint_peers.proofs.joint.JointPeers.connect.Goals as goal

pub returns-clause-made : goal.returns-clause-made
returns-clause-made c =
    caller_makes _ _ _ _ _ c.requires.there.0 c.peer_mut.ensures.value c.connect-got.ensures.answered
    c.connect-got.ensures.setup tt
