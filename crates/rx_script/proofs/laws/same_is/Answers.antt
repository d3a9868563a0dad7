use Rattle.rx_script.proofs.SameLaw.{one_value}
use Rattle.rx_script.proofs.laws.same_is.Goals as goal

pub returns : goal.returns
returns c = one_value
