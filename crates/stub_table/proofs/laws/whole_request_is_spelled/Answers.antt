use Rattle.stub_table.proofs.Whole.{whole_says}
use Rattle.stub_table.proofs.laws.whole_request_is_spelled.Goals as goal

pub returns : goal.returns
returns c = whole_says
