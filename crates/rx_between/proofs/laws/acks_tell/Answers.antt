use Rattle.rx_between.proofs.LawsTold.{acks_tell}
use Rattle.rx_between.proofs.laws.acks_tell.Goals as goal

pub returns : goal.returns
returns c = acks_tell
