use Rattle.rx_between.proofs.LawsTold.{ackalls_tell}
use Rattle.rx_between.proofs.laws.ackalls_tell.Goals as goal

pub returns : goal.returns
returns c = ackalls_tell
