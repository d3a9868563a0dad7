use Rattle.rx_top.proofs.OutsideLemmas.{counts_then}
use Rattle.rx_top.proofs.call.call_sent.Goals as goal

pub returns-in-Ok-clause-counts : goal.returns-in-Ok-clause-counts
returns-in-Ok-clause-counts g c = counts_then _ _ _ _ c.in-Ok.ensures.counts c.call_with.ensures.counts
