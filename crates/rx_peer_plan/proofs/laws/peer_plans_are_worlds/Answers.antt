use Rattle.rx_peer_plan.proofs.Whole.{plans_whole, plans_world}
use Rattle.rx_peer_plan.proofs.laws.peer_plans_are_worlds.Goals as goal

pub returns : goal.returns
returns c = record { made = plans_world; whole = plans_whole }
