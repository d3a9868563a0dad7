use Rattle.rx_reply.proofs.Spoken.{said_is_spelled}
use Rattle.rx_reply.proofs.laws.said_reply_is_spelled.Goals as goal

pub returns : goal.returns
returns c = said_is_spelled
