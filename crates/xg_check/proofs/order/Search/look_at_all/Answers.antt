use Rattle.xg_check.proofs.OrderLaws.{nothing_looked, looked_one_more}
use Rattle.xg_check.proofs.order.Search.look_at_all.Goals as goal

pub loop-node-init : goal.loop-node-init
loop-node-init c = nothing_looked c.args.graph.now _ _ _ _ c.requires

pub loop-node-preserved : goal.loop-node-preserved
loop-node-preserved c =
    looked_one_more c.args.graph.now c.loop-node.node _ _ _ _ _ _ _ _ c.loop-node.invariant c.in_ok-look.ensures
