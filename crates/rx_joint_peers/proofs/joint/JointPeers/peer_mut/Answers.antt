use Rattle.std.proofs.Common.{refl}
use Rattle.rx_joint_peers.proofs.Lent.{peer_at_place, peer_back}
use Rattle.rx_joint_peers.proofs.joint.JointPeers.peer_mut.Goals as goal

pub returns : goal.returns
returns c = (
  (refl, λ w. peer_back _ _ _ _ w c.self.view_is c.requires c.index_mut-at.ensures.value),
  record {
    writes_back = tt;
    value = peer_at_place _ _ _ _ c.self.view_is c.requires c.index_mut-at.ensures.value;
  },
)
