use Rattle.rx_node.proofs.Heads.{latest_is}
use Rattle.rx_node.proofs.node.Node.latest.Goals as goal

pub returns : goal.returns
returns g c =
    rw (← c.self.view_is)
    (λ l ch m at. latest_is g.C.Class.class_of _ l m c.args.key ch at c.named-epoch.result c.seat.result.now
    c.named-epoch.ensures c.seat.ensures)
