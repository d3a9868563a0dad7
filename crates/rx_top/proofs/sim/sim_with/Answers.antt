use Rattle.rx_top.proofs.OutsideLemmas.{counts_then}
use Rattle.rx_top.proofs.sim.sim_with.Goals as goal

pub returns-in-Ok-clause-counts : goal.returns-in-Ok-clause-counts
returns-in-Ok-clause-counts g c = counts_then _ _ _ _ c.in-Ok.ensures.counts c.play.ensures.counts
