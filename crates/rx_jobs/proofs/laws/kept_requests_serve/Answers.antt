use Rattle.rx_jobs.proofs.KeptLaws.{kept_early, kept_least, kept_more, kept_most, kept_served, kept_wait}
use Rattle.rx_jobs.proofs.laws.kept_requests_serve.Goals as goal

pub returns : goal.returns
returns c = record {
  served = kept_served;
  early = kept_early;
  waits = kept_wait;
  joins = kept_more;
  most = kept_most;
  least = kept_least;
}
