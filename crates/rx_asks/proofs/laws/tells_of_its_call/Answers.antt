use Rattle.rx_asks.proofs.Driving.{tells_driven}
use Rattle.rx_asks.proofs.laws.tells_of_its_call.Goals as goal

pub returns : goal.returns
returns c = tells_driven
