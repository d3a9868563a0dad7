use Rattle.rx_node.proofs.KeptKeys.{proved_is}
use Rattle.rx_node.proofs.node.Node.is_proved.Goals as goal

pub returns : goal.returns
returns g c = λ l ch m at.
    proved_is g.C.Class.class_of c.args.self.now l m c.args.key ch at c.proved.result
    (rw (← c.self.view_is) c.proved.ensures)
