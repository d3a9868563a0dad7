use Rattle.rx_load.proofs.Nodes.{load_promises, load_world}
use Rattle.rx_load.proofs.Said.{load_said}
use Rattle.rx_load.proofs.laws.loads_keep_promises.Goals as goal

pub returns : goal.returns
returns c = record { world = load_world; promises = load_promises; says = load_said }
