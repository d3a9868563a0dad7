use Rattle.rx_peer_plan.proofs.Reading.{own_hosts, peers_ranged}
use Rattle.rx_peer_plan.proofs.plans.peer_plans_are_apart.Goals as goal

pub returns : goal.returns
returns c = record { range = peers_ranged; hosts = own_hosts }
