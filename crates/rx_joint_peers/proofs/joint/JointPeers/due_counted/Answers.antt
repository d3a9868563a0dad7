use Rattle.rx_joint_peers.proofs.Times.{due_is}
use Rattle.rx_joint_peers.proofs.joint.JointPeers.due_counted.Goals as goal

pub returns : goal.returns
returns g c = due_is _ _ _ _ c.requires.there.0 c.peer.ensures c.due.ensures.value
