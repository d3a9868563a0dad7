use Rattle.rx_rounds.proofs.Lines.Complete.{complete}
use Rattle.rx_rounds.proofs.laws.plans_complete.Goals as goal

pub returns : goal.returns
returns c = complete
