use Rattle.rx_rounds.proofs.Arriving.Arrive.{arrive}
use Rattle.rx_rounds.proofs.laws.plans_arrive.Goals as goal

pub returns : goal.returns
returns c = arrive
