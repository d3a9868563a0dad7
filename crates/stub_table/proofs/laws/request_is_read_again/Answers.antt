use Rattle.stub_table.proofs.Again.{request_again}
use Rattle.stub_table.proofs.laws.request_is_read_again.Goals as goal

pub returns : goal.returns
returns c = request_again
