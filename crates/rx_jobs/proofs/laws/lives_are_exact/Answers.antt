use Rattle.rx_jobs.proofs.LifeLaws.{lives_exact}
use Rattle.rx_jobs.proofs.laws.lives_are_exact.Goals as goal

pub returns : goal.returns
returns c = lives_exact
