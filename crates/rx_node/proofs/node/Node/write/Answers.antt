use Rattle.std.proofs.Common.{◌∙◌, ap, sym, subst, length, min}
use Rattle.std.specs.Prelude.{take}
use Rattle.rx_rules.specs.CallLooks.{after_write}
use Rattle.rx_call_ends.specs.Ends.{IsUnshut}
use Rattle.rx_node.specs.Mirrors.{IsActiveAt}
use Rattle.rx_node.specs.Node.{NodeState}
use Rattle.rx_node.proofs.Steps.ActiveSteps.{active_stands, room_is, roomy_write}
use Rattle.rx_node.proofs.Steps.EndSteps.{mirrors_end}
use Rattle.rx_node.proofs.Steps.SeatedSteps.{end_seated, end_set_up}
use Rattle.rx_node.proofs.SameChannels.{same_with_ends}
use Rattle.rx_node.proofs.node.Node.write.Goals as goal

pub invariant_of-self : goal.invariant_of-self
invariant_of-self g c =
    let i = c.self.invariant in
    let key = c.args.key in
    let end = c.args.end in
    let a = subst (λ (n : NodeState). IsActiveAt n key end) (sym c.self.view_is) c.requires.active in (
      end_set_up g.C.Class.class_of _ key end a _ _ c.write.ensures.steps c.write.ensures.live i.0,
      end_seated g.C.Class.class_of _ key end a _ _ c.write.ensures.steps c.write.ensures.live i.1,
      i.2,
      i.3,
    )

pub returns-clause-answered : goal.returns-clause-answered
returns-clause-answered g c =
    let i = c.self.invariant in
    let key = c.args.key in
    let end = c.args.end in
    let a = subst (λ (n : NodeState). IsActiveAt n key end) (sym c.self.view_is) c.requires.active in
    rw (← c.self.view_is)
    (λ l ch k m at is. c.write.ensures.answered k.looks
    (active_stands g.C.Class.class_of _ l m key end ch at a k is)
    ∙ ap (min (length c.args.bytes.now)) (room_is g.C.Class.class_of _ l m key end ch at a i.0 k.looks))

pub returns-clause-steps : goal.returns-clause-steps
returns-clause-steps g c =
    let i = c.self.invariant in
    let key = c.args.key in
    let end = c.args.end in
    let bytes = c.args.bytes.now in
    let got = c.write.result in
    let a = subst (λ (n : NodeState). IsActiveAt n key end) (sym c.self.view_is) c.requires.active in
    let unshut = subst (λ (n : NodeState). IsUnshut n.ends end) (sym c.self.view_is) c.requires.unshut in
    rw (← c.self.view_is)
    (λ l ch m at. mirrors_end g.C.Class.class_of _ l m i.1 key end ch at a _ (after_write (take got bytes))
    c.write.ensures.steps
    (roomy_write g.C.Class.class_of _ l m key end ch at a i.0 unshut bytes got c.write.ensures.answered))

pub returns-clause-others : goal.returns-clause-others
returns-clause-others g c =
    let a = subst (λ (n : NodeState). IsActiveAt n c.args.key c.args.end) (sym c.self.view_is) c.requires.active in
    rw (← c.self.view_is)
    (same_with_ends _ c.self.invariant.1 c.args.key c.args.end a.seat a.there a.live _ c.write.ensures.steps.keeps)
