use Rattle.std.proofs.Common.{◌≡◌, ◌≤◌, ◌+◌, ◌-◌, ℕ, sym, subst, ◌∙◌, ap, arith}
use Rattle.rx_rules.specs.Life.{after_silence}
use Rattle.rx_rules.specs.Records.{unless_silent}
use Rattle.rx_call_ends.specs.Ends.{StandsEnd}
use Rattle.rx_node.specs.Mirrors.{IsActiveAt}
use Rattle.rx_node.specs.Node.{NodeState}
use Rattle.rx_node.proofs.Steps.ActiveSteps.{changed_as, not_silent, same_by, silent, unless_inactive}
use Rattle.rx_node.proofs.Steps.EndSteps.{active_call}
use Rattle.rx_node.proofs.SameChannels.{same_itself}
use Rattle.rx_node.proofs.Steps.MomentSteps.{silence_idle, silence_none, silence_some, silenced_idle}
use Rattle.rx_node.specs.Moments.{silence_at}
use Rattle.std.proofs.Common.{None, Some}
use Rattle.std.specs.Prelude.{IsSomeAnd}
use Rattle.rx_call.specs.Kept.{call_under}
use Rattle.rx_model.specs.declared.wire.TheConstants.{SILENCE_MS}
use Rattle.rx_node.specs.Node.{life_at}
use Rattle.rx_node.proofs.node.Node.silence_on.Goals as goal

pub returns-in_default-clause-silenced : goal.returns-in_default-clause-silenced
returns-in_default-clause-silenced g c =
    λ l ch m at. unless_inactive g.C.Class.class_of c.args.self.now l ch m
    (sym (c.in_default.ensures.answered l ch m at))

pub returns-then-dies-self-clause-silenced : goal.returns-then-dies-self-clause-silenced
returns-then-dies-self-clause-silenced g c =
    let key = c.args.key in
    let end = c.in-Some.end in
    let a = subst (λ (n : NodeState). IsActiveAt n key end) (sym c.self.view_is) c.in-Some.ensures.some in
    rw (← c.self.view_is)
    (λ l ch m at. (
    let its = active_call g.C.Class.class_of _ l m key end ch at a in
    let dies = c.dies-dies.ensures.value its.call.looks its.stands in
    let soon = c.if-dies-self.true in
    let now = m.now in
    same_by g.C.Class.class_of _ l ch m (unless_silent l.now) its.call its.latest_is
    (not_silent l.now its.call (omega (arith, dies, soon, now)))))

pub returns-clause-silenced : goal.returns-clause-silenced
returns-clause-silenced g c =
    let class = g.C.Class.class_of in
    let n = c.args.self.now in
    let key = c.args.key in
    let end = c.in-Some.end in
    λ l ch m at. (
    let its = active_call class n l m key end ch at c.in-Some.ensures.some in
    let k = its.call in
    let dies : c.dies-dies.result ≡ k.looks.heard + 12000 =
    c.dies-dies.ensures.value k.looks
    (subst (λ (n : NodeState). StandsEnd n.ends end k.looks) (sym c.self.view_is) its.stands) in
    let now : c.self.inside.moment ≡ l.now = ap (λ (n : NodeState). n.moment) c.self.view_is ∙ m.now in
    let over = c.if-dies-self.false in
    let late : k.looks.heard + 12000 ≤ l.now = omega (arith, dies, now, over) in
    let silence : c.self.inside.moment - c.dies-dies.result + 12000 ≡ l.now - k.looks.heard =
    omega (arith, dies, now, over) in
    changed_as class n l ch m (unless_silent l.now) c.make_turn.new.self k
    (λ j. record j { life = after_silence (c.self.inside.moment - c.dies-dies.result + 12000) j.life }) its.latest_is
    (ap (λ (s : ℕ). record k { life = after_silence s k.life }) silence ∙ sym (silent l.now k its.active late))
    (c.make_turn.ensures.steps l ch m at))

pub returns-in_default-clause-others : goal.returns-in_default-clause-others
returns-in_default-clause-others g c =
    λ q apart. same_itself _ q

pub returns-then-dies-self-clause-others : goal.returns-then-dies-self-clause-others
returns-then-dies-self-clause-others g c =
    rw (← c.self.view_is) (λ q apart. same_itself _ q)

pub returns-in_default-clause-ends : goal.returns-in_default-clause-ends
returns-in_default-clause-ends g c =
    let none : None ≡ silence_at c.args.self.now c.args.key = silence_none c.args.self.now c.args.key
    c.in_default.ensures.call in
    λ moment is late. absurd (cc (none, is))

pub returns-then-dies-self-clause-ends : goal.returns-then-dies-self-clause-ends
returns-then-dies-self-clause-ends g c =
    let n = c.args.self.now in
    let key = c.args.key in
    let dies : Some c.dies-dies.result ≡ silence_at n key = silence_some n key _ _ c.in-Some.ensures.call
    (subst (λ (n : NodeState). IsSomeAnd (call_under n.ends.calls c.in-Some.end)
    (λ e. c.dies-dies.result ≡ e.heard + SILENCE_MS)) c.self.view_is c.dies-dies.ensures.heard) in
    let over = c.if-dies-self.true in
    let now : c.self.inside.moment ≡ n.moment = ap (λ (n : NodeState). n.moment) c.self.view_is in
    λ moment is late. absurd (
    let same : c.dies-dies.result ≡ moment = (let both = dies ∙ is in cc (both)) in omega
    (arith, same, over, now, late))

pub returns-clause-ends : goal.returns-clause-ends
returns-clause-ends g c =
    λ moment is late. silence_idle c.make_turn.new.self c.args.key
    (c.make_turn.ensures.idle (silenced_idle _ (life_at c.args.self.now c.args.key)))
