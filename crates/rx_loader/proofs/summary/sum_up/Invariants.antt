-- the callers so far were counted
use Rattle.std.proofs.Common.{◌≡◌, drop}
use Rattle.rx_load.specs.Summing.{count_all, counts_none}
use Rattle.rx_loader.proofs.summary.sum_up.Given as goal

abbrev pub invariant-loop-invoked : goal.invariant-loop-invoked
invariant-loop-invoked l =
    count_all l.bodies (drop l.invoked-index l.callers) l.ends ≡ count_all l.bodies l.callers counts_none
