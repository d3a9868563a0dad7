use Rattle.rx_joint_peers.proofs.Standing.{polled_makes}
use Rattle.rx_joint_peers.proofs.joint.JointPeers.polled_counted.Goals as goal

pub returns : goal.returns
returns g c =
    polled_makes _ _ _ _ _ _ c.requires.there.0 c.peer_mut.ensures.value c.poll.ensures.answered c.poll.ensures.setups
