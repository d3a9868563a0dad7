use Rattle.std.proofs.Common.{◌≡◌, ap, subst, refl}
use Rattle.rx_model.specs.declared.names.CallName.{CallName}
use Rattle.rx_packet.specs.Seen.{message_of}
use Rattle.rx_rules.specs.After.{taken_at}
use Rattle.rx_rules.specs.Judging.{end_row}
use Rattle.rx_rules.specs.Looks.{CallRecord, Looks}
use Rattle.rx_node.specs.Node.{NodeState, setup_of}
use Rattle.rx_node.specs.Steps.{IsOwn}
use Rattle.rx_node.proofs.Steps.SeatedSteps.{end_seated, end_set_up}
use Rattle.rx_node.proofs.KeptKeys.{by_looks}
use Rattle.rx_node.proofs.Steps.TakingSteps.{end_answers, mirrors_taken}
use Rattle.std.proofs.Common.{sym, subst}
use Rattle.rx_node.specs.Mirrors.{IsActiveAt}
use Rattle.rx_node.proofs.SameChannels.{same_with_ends}
use Rattle.rx_node.proofs.node.Node.hear.Goals as goal

pub invariant_of-self : goal.invariant_of-self
invariant_of-self g c =
    let i = c.self.invariant in
    let active = rw (← c.self.view_is) at c.requires.active in (
      end_set_up g.C.Class.class_of _ c.args.key c.args.end active c.take.new.self _ c.take.ensures.steps
          c.take.ensures.live i.0,
      end_seated g.C.Class.class_of _ c.args.key c.args.end active c.take.new.self _ c.take.ensures.steps
          c.take.ensures.live i.1,
      i.2,
      i.3,
    )

pub returns-clause-answered : goal.returns-clause-answered
returns-clause-answered g c =
    let i = c.self.invariant in
    let class = g.C.Class.class_of in
    let m = message_of c.args.head.now c.args.body.now in
    let active = rw (← c.self.view_is) at c.requires.active in
    let P : NodeState → Type 0 = λ n. (l : Looks) (d : CallName) (k : CallRecord) → IsOwn class n l c.args.key d k
    → c.take.result ≡ end_row (setup_of class n) l k m in
    subst P c.self.view_is
    (λ l d k own. end_answers class _ l c.args.key c.args.end d k own active i.0 i.1 c.take.new.self c.take.result m
    (record { steps = c.take.ensures.steps; row = c.take.ensures.answered }))

pub returns-clause-steps : goal.returns-clause-steps
returns-clause-steps g c =
    let i = c.self.invariant in
    let class = g.C.Class.class_of in
    let m = message_of c.args.head.now c.args.body.now in
    let active = rw (← c.self.view_is) at c.requires.active in
    λ l d k own. (
    let mine = rw (← c.self.view_is) at own in
    let is = mirrors_taken class _ l c.args.key c.args.end d k mine active i.0 i.1 c.take.new.self c.take.result m
    (record { steps = c.take.ensures.steps; row = c.take.ensures.answered }) in
    by_looks class _ _ _ (ap (λ (n : NodeState). taken_at (setup_of class n) c.take.result d m l) c.self.view_is) is)

pub returns-clause-active : goal.returns-clause-active
returns-clause-active g c =
    let active = rw (← c.self.view_is) at c.requires.active in
    record { seat = active.seat; there = active.there; live = active.live; active = active.active }

pub returns-clause-same : goal.returns-clause-same
returns-clause-same g c =
    rw (← c.self.view_is)
    (record { kind = refl; limits = refl; prompt = refl; secret = refl; moment = refl; names = refl })

pub returns-clause-others : goal.returns-clause-others
returns-clause-others g c =
    let a = subst (λ (n : NodeState). IsActiveAt n c.args.key c.args.end) (sym c.self.view_is) c.requires.active in
    rw (← c.self.view_is)
    (same_with_ends _ c.self.invariant.1 c.args.key c.args.end a.seat a.there a.live _ c.take.ensures.steps.keeps)
