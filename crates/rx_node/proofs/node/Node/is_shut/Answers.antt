use Rattle.std.proofs.Common.{sym, subst}
use Rattle.rx_call_ends.specs.Ends.{StandsEnd}
use Rattle.rx_node.specs.Node.{NodeState}
use Rattle.rx_node.proofs.Steps.ActiveSteps.{active_stands}
use Rattle.rx_node.proofs.node.Node.is_shut.Goals as goal

pub returns-clause-answered : goal.returns-clause-answered
returns-clause-answered g c =
    let end = c.args.end in
    λ l ch k m at is. c.is_shut.ensures.answered k.looks
    (subst (λ (n : NodeState). StandsEnd n.ends end k.looks) (sym c.self.view_is)
    (active_stands g.C.Class.class_of c.args.self.now l m c.args.key end ch at c.requires k is))
