use Rattle.rx_joint.proofs.Times.{least_all}
use Rattle.rx_joint.proofs.nodes.Nodes.least_wait_counted.Goals as goal

pub returns : goal.returns
returns g c =
    least_all _ _ _ _ _ _ _ _ _ c.self.view_is c.as_slice.ensures.value c.wait_of-served.ensures c.due.ensures.value
    c.moment.ensures.exact c.least_of_clients.ensures
