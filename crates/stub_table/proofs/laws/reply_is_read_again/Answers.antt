use Rattle.stub_table.proofs.Again.{reply_again}
use Rattle.stub_table.proofs.laws.reply_is_read_again.Goals as goal

pub returns : goal.returns
returns c = reply_again
