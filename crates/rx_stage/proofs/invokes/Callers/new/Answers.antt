use Rattle.rx_stage.proofs.Done.{left_none}
use Rattle.rx_stage.proofs.invokes.Callers.new.Goals as goal

pub invariant_of-result : goal.invariant_of-result
invariant_of-result c = left_none c.new.result.items c.new-2.result.items c.new.ensures.items c.new-2.ensures.items
