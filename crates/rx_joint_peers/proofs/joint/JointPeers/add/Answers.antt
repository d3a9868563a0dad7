use Rattle.std.proofs.Common.{arith}
use Rattle.rx_joint_peers.proofs.Added.{are_with, peers_pushed, stands_pushed}
use Rattle.rx_joint_peers.proofs.joint.JointPeers.add.Goals as goal

pub returns-clause-stands : goal.returns-clause-stands
returns-clause-stands c =
    stands_pushed _ _ _ _ c.self.view_is c.in_ok-push.ensures.items c.in_ok-peer.ensures.stands

pub returns-clause-are : goal.returns-clause-are
returns-clause-are c =
    are_with _ _ _ _ _ _ (peers_pushed _ _ _ _ _ _ _ c.self.view_is c.in_ok-push.ensures.items
    c.in_ok-peer.ensures.caller c.in_ok-peer.ensures.served) (omega arith) (omega arith) c.requires
