use Rattle.rx_history.proofs.Suffice.{slots_suffice}
use Rattle.rx_law.proofs.laws.slots_suffice.Goals as goal

pub returns : goal.returns
returns c = slots_suffice
