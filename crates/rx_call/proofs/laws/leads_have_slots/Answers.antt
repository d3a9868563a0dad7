use Rattle.rx_call.proofs.Spare.{spare_at}
use Rattle.rx_call.proofs.laws.leads_have_slots.Goals as goal

pub returns : goal.returns
returns c = spare_at
