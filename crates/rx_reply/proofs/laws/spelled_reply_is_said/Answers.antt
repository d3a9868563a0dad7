use Rattle.rx_reply.proofs.Spoken.{spelled_is_said}
use Rattle.rx_reply.proofs.laws.spelled_reply_is_said.Goals as goal

pub returns : goal.returns
returns c = spelled_is_said
