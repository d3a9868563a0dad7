use Rattle.rx_joint_peers.proofs.Standing.{caller_makes, made_as, served_makes}
use Rattle.rx_joint_peers.proofs.joint.JointPeers.clock.Goals as goal

pub returns-in-Caller-clause-made : goal.returns-in-Caller-clause-made
returns-in-Caller-clause-made c =
    made_as _ _ _ _ _ _ c.in-Caller.is
    (caller_makes _ _ _ _ _ c.requires.there.0 c.peer_mut.ensures.value c.clock.ensures.answered c.clock.ensures.setup
    tt)

pub returns-in-Served-clause-made : goal.returns-in-Served-clause-made
returns-in-Served-clause-made c =
    made_as _ _ _ _ _ _ c.in-Served.is
    (served_makes _ _ _ _ _ c.requires.there.0 c.peer_mut-in-Served.ensures.value c.clock-in-Served.ensures.answered
    c.clock-in-Served.ensures.setup tt)
