use Rattle.rx_jobs.proofs.LifeLaws.{lives_kept}
use Rattle.rx_jobs.proofs.laws.lives_keep_what_counts.Goals as goal

pub returns : goal.returns
returns c = lives_kept
