use Rattle.std.proofs.Common.{refl}
use Rattle.rx_joint.proofs.Lent.{client_at, client_back}
use Rattle.rx_joint.proofs.nodes.Nodes.client_mut.Goals as goal

pub returns : goal.returns
returns c = (
  (refl, λ w. client_back _ _ _ _ _ _ w c.self.view_is c.requires c.index_mut-at.ensures.value),
  record {
    writes_back = tt;
    value = client_at _ _ _ _ _ _ c.self.view_is c.requires c.index_mut-at.ensures.value;
  },
)
