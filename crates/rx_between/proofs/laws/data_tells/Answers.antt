use Rattle.rx_between.proofs.LawsTold.{data_tells}
use Rattle.rx_between.proofs.laws.data_tells.Goals as goal

pub returns : goal.returns
returns c = data_tells
