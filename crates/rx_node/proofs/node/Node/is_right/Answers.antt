use Rattle.std.proofs.Common.{◌≡◌, ◌∙◌}
use Rattle.rx_node.proofs.Steps.TakingSteps.{right_is}
use Rattle.rx_node.proofs.node.Node.is_right.Goals as goal

pub returns : goal.returns
returns g c = λ l k own.
    (let asked : c.check.result ≡ (g.C.Class.class_of c.args.self.now.secret).check c.args.c.now c.nonce.result
    c.args.answer.now =
    rw (← c.self.view_is) c.check.ensures in
    asked
    ∙ right_is g.C.Class.class_of c.args.self.now l c.args.key c.args.c.now k c.nonce.result c.args.answer.now own
    (rw (← c.self.view_is) c.nonce.ensures))
