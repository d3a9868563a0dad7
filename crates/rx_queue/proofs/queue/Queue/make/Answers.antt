use Rattle.std.proofs.Common.{refl}
use Rattle.rx_queue.specs.Counts.{upto}
use Rattle.rx_queue.proofs.queue.Queue.make.Goals as goal

pub returns-clause-empty : goal.returns-clause-empty
unfolding upto
returns-clause-empty c = refl
