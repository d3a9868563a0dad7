use Rattle.std.proofs.Common.{take}
use Rattle.xg_check.specs.Searching.{AreAdded}
use Rattle.xg_check.proofs.reach.Reached.add.Given as goal

abbrev pub invariant-loop-node : goal.invariant-loop-node
invariant-loop-node l = AreAdded l.fn.self.marks.items l.self.marks.items l.fn.self.nodes.items l.self.nodes.items
    (take l.node-index l.nodes)
