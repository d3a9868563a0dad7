use Rattle.rx_law.proofs.Clocks.{always-alike}
use Rattle.rx_law.proofs.laws.clocks_go_alike.Goals as goal

pub returns : goal.returns
returns c = always-alike
