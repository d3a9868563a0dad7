use Rattle.rx_plan.proofs.Scripts.Waits.{script_waits}
use Rattle.rx_plan.proofs.plans.scripts_wait_shortly.Goals as goal

pub returns : goal.returns
returns c = script_waits
