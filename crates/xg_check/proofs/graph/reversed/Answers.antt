use Rattle.std.proofs.Common.{arith}
use Rattle.xg_check.proofs.BackLaws.{turned_graph, all_turned}
use Rattle.xg_check.proofs.graph.reversed.Goals as goal

pub of-requires : goal.of-requires
of-requires c = turned_graph c.args.graph.now _ c.loop-node.node c.loop-node.invariant

pub returns : goal.returns
returns c =
    rw c.of.ensures (all_turned c.args.graph.now _ c.loop-node.node c.loop-node.invariant (omega arith))
