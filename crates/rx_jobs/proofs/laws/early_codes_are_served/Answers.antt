use Rattle.rx_jobs.proofs.EarlyLaws.{begun_served, early_served}
use Rattle.rx_jobs.proofs.laws.early_codes_are_served.Goals as goal

pub returns-clause-begun : goal.returns-clause-begun
returns-clause-begun c = begun_served

pub returns-clause-ended : goal.returns-clause-ended
returns-clause-ended c = early_served
