use Rattle.rx_plan.proofs.Givings.Promised.{plans_carry, plans_world}
use Rattle.rx_plan.proofs.laws.plans_are_worlds.Goals as goal

pub returns : goal.returns
returns c = record { carried = plans_carry; world = plans_world }
