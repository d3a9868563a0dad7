use Rattle.rx_rounds.proofs.HaveEnded.{calls_end}
use Rattle.rx_rounds.proofs.laws.completed_calls_have_ended.Goals as goal

pub returns : goal.returns
returns c = calls_end
