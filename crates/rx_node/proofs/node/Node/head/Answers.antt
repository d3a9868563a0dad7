use Rattle.rx_node.proofs.Heads.{head_is}
use Rattle.rx_node.proofs.node.Node.head.Goals as goal

pub returns-clause-head : goal.returns-clause-head
returns-clause-head g c =
    rw (← c.self.view_is)
    (λ l ch x body m at found. head_is g.C.Class.class_of _ l m c.args.key ch at c.named-epoch.result c.seat.result.now
    c.index-2.result.now c.flag.result c.index.result c.args.serial x body c.named-epoch.ensures c.seat.ensures
    c.index-2.ensures c.flag.ensures c.index.ensures found)
