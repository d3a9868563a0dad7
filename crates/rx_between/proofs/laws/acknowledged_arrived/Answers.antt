use Rattle.rx_between.proofs.LawsTrue.{true_held, true_in_world, true_once}
use Rattle.rx_between.proofs.laws.acknowledged_arrived.Goals as goal

pub returns : goal.returns
returns c = record { once = true_once; held = true_held; world = true_in_world }
