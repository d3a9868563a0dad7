use Rattle.rx_peer_plan.proofs.Whole.{plan_promises}
use Rattle.rx_peer_plan.proofs.laws.peer_plans_keep_promises.Goals as goal

pub returns : goal.returns
returns c = plan_promises
