use Rattle.xg_check.specs.Ordering.{AreEnded}
use Rattle.xg_check.proofs.order.Search.first_open.Given as goal

abbrev pub invariant-loop-at : goal.invariant-loop-at
invariant-loop-at l = AreEnded l.self.ended.items l.next l.from l.at
