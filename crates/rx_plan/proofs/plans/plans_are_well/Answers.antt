use Rattle.rx_plan.proofs.Reading.{lines_well}
use Rattle.rx_plan.proofs.plans.plans_are_well.Goals as goal

pub returns : goal.returns
returns c = lines_well
