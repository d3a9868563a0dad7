use Rattle.rx_joint.proofs.Added.{with_one_more}
use Rattle.rx_joint.proofs.nodes.Nodes.add_client.Goals as goal

pub returns-clause-stands : goal.returns-clause-stands
returns-clause-stands c =
    with_one_more _ _ _ _ _ _ c.self.view_is c.in_ok-push.ensures.items c.in_ok-client.ensures.stands
