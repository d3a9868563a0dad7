use Rattle.xg_check.specs.Searching.{IsReaching}
use Rattle.xg_check.proofs.reach.Reached.follow.Given as goal

abbrev pub invariant-loop-at : goal.invariant-loop-at
invariant-loop-at l = IsReaching l.graph l.starts l.self.marks.items l.self.nodes.items l.at
