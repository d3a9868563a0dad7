use Rattle.std.proofs.Common.{sym, subst}
use Rattle.rx_rules.specs.CallLooks.{after_shut}
use Rattle.rx_node.specs.Mirrors.{IsActiveAt}
use Rattle.rx_node.specs.Node.{NodeState}
use Rattle.rx_node.proofs.Steps.EndSteps.{mirrors_end}
use Rattle.rx_node.proofs.Steps.SeatedSteps.{end_seated, end_set_up}
use Rattle.rx_node.proofs.SameChannels.{same_with_ends}
use Rattle.rx_node.proofs.node.Node.shut.Goals as goal

pub invariant_of-self : goal.invariant_of-self
invariant_of-self g c =
    let i = c.self.invariant in
    let key = c.args.key in
    let end = c.args.end in
    let a = subst (λ (n : NodeState). IsActiveAt n key end) (sym c.self.view_is) c.requires.active in (
      end_set_up g.C.Class.class_of _ key end a _ after_shut c.shut.ensures.steps c.shut.ensures.live i.0,
      end_seated g.C.Class.class_of _ key end a _ after_shut c.shut.ensures.steps c.shut.ensures.live i.1,
      i.2,
      i.3,
    )

pub returns-clause-steps : goal.returns-clause-steps
returns-clause-steps g c =
    let key = c.args.key in
    let end = c.args.end in
    let a = subst (λ (n : NodeState). IsActiveAt n key end) (sym c.self.view_is) c.requires.active in
    rw (← c.self.view_is)
    (λ l ch m at roomy. mirrors_end g.C.Class.class_of _ l m c.self.invariant.1 key end ch at a _ after_shut
    c.shut.ensures.steps roomy)

pub returns-clause-others : goal.returns-clause-others
returns-clause-others g c =
    let a = subst (λ (n : NodeState). IsActiveAt n c.args.key c.args.end) (sym c.self.view_is) c.requires.active in
    rw (← c.self.view_is)
    (same_with_ends _ c.self.invariant.1 c.args.key c.args.end a.seat a.there a.live _ c.shut.ensures.steps.keeps)
