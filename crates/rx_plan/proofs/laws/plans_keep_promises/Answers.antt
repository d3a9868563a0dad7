use Rattle.rx_plan.proofs.Givings.Promised.{plan_promises}
use Rattle.rx_plan.proofs.laws.plans_keep_promises.Goals as goal

pub returns : goal.returns
returns c = plan_promises
