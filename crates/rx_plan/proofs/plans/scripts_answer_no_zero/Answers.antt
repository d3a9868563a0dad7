use Rattle.rx_plan.proofs.Scripts.Waits.{script_codes}
use Rattle.rx_plan.proofs.plans.scripts_answer_no_zero.Goals as goal

pub returns : goal.returns
returns c = script_codes
