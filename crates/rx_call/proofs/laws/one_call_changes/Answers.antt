use Rattle.rx_call.proofs.CallsAt.{changes_one}
use Rattle.rx_call.proofs.laws.one_call_changes.Goals as goal

pub returns : goal.returns
returns c = changes_one
