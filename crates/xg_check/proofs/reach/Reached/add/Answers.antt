use Rattle.std.proofs.lemmas.List.{take_more}
use Rattle.xg_check.proofs.SearchLaws.{added_more}
use Rattle.xg_check.proofs.reach.Reached.add.Goals as goal

pub loop-node-preserved : goal.loop-node-preserved
loop-node-preserved c =
    rw (take_more c.args.nodes.now c.loop-node.node-index 0 c.loop-node-test.true)
    (added_more _ _ _ _ _ _ _ _ c.loop-node.invariant c.in_ok-mark.ensures)
