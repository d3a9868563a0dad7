use Rattle.rx_reply.proofs.Arrays.{array_again}
use Rattle.rx_reply.proofs.laws.array_returns.Goals as goal

pub returns : goal.returns
returns c = array_again
