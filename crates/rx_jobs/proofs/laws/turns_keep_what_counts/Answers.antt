use Rattle.rx_jobs.proofs.KeptTurns.{drives_kept}
use Rattle.rx_jobs.proofs.laws.turns_keep_what_counts.Goals as goal

pub returns : goal.returns
returns c = drives_kept
