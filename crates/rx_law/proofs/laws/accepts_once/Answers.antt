use Rattle.rx_history.proofs.Laws.OnceLaw.{once_under_forgery}
use Rattle.rx_law.proofs.laws.accepts_once.Goals as goal

pub returns : goal.returns
returns c = once_under_forgery
