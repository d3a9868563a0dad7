use Rattle.rx_wire_loop.proofs.ToldCalls.{call_told}
use Rattle.rx_wire_loop.proofs.laws.calls_tell.Goals as goal

pub returns : goal.returns
returns c = call_told
