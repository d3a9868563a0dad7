use Rattle.rx_plan.proofs.Givings.Promised.{plans_legal, plans_whole}
use Rattle.rx_plan.proofs.laws.plans_are_legal.Goals as goal

pub returns : goal.returns
returns c = record { made = plans_legal; whole = plans_whole }
