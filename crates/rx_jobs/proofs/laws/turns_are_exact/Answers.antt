use Rattle.rx_jobs.proofs.Driving.{drives_exact}
use Rattle.rx_jobs.proofs.laws.turns_are_exact.Goals as goal

pub returns : goal.returns
returns c = drives_exact
