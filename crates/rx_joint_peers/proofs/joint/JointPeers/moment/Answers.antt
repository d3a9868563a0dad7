use Rattle.rx_joint_peers.proofs.Times.{caller_moment, served_moment}
use Rattle.rx_joint_peers.proofs.joint.JointPeers.moment.Goals as goal

pub returns-in-Caller-clause-exact : goal.returns-in-Caller-clause-exact
returns-in-Caller-clause-exact c =
    caller_moment _ _ _ _ _ c.in-Caller.is c.requires.0 c.peer-peer.ensures c.moment.ensures.exact

pub returns-in-Served-clause-exact : goal.returns-in-Served-clause-exact
returns-in-Served-clause-exact c =
    served_moment _ _ _ _ _ c.in-Served.is c.requires.0 c.peer-peer.ensures c.moment-in-Served.ensures.exact
