use Rattle.rx_asks.proofs.Givings.{reads_give}
use Rattle.rx_asks.proofs.laws.reads_give_bytes.Goals as goal

pub returns : goal.returns
returns c = reads_give
