use Rattle.rx_law.proofs.LegalTold.{legal_told}
use Rattle.rx_law.proofs.laws.legal_events_are_told.Goals as goal

pub returns : goal.returns
returns c = legal_told
