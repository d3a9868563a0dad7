use Rattle.std.proofs.Common.{◌≡◌, ◌<◌, ◌+◌, ◌-◌, ◌/◌, Some, true, length, ap, sym, subst, ◌∙◌, arith}
use Rattle.std.proofs.lemmas.Bool.{false≢true}
use Rattle.rx_rules.specs.Life.{is_live}
use Rattle.rx_rules.specs.Looks.{is_call}
use Rattle.rx_rules.specs.Setup.{is_client}
use Rattle.rx_table.specs.declared.seat.Seat.{Seat}
use Rattle.rx_table.specs.Records.{seat_at}
use Rattle.rx_node.specs.Lives.{is_of, life_of}
use Rattle.rx_node.specs.Node.{NodeState}
use Rattle.rx_node.proofs.Steps.ActiveSteps.{free_dead, indexed, key_low, named_live}
use Rattle.rx_node.proofs.LifeChanges.{cleared_seated, cleared_set_up, lived_seated, lived_set_up, mirrors_cleared}
use Rattle.rx_node.proofs.LifeChanges.{mirrors_lived, mirrors_over}
use Rattle.rx_node.proofs.LifeChanges.{over_kept, over_seated, over_set_up}
use Rattle.rx_node.proofs.Steps.SeatedSteps.{one_seat}
use Rattle.rx_node.proofs.SameChannels.{same_itself}
use Rattle.rx_node.proofs.SameChannels.{same_cleared, same_over, same_with_life}
use Rattle.rx_node.proofs.Steps.MomentSteps.{end_free}
use Rattle.rx_node.proofs.SameChannels.{idle_cleared, idle_over}
use Rattle.std.proofs.Common.{refl}
use Rattle.rx_node.proofs.node.Node.set_life.Goals as goal

pub returns-in_default-clause-steps : goal.returns-in_default-clause-steps
returns-in_default-clause-steps g c =
    let key = c.args.key in
    let seat = c.seat.result.now in
    let there : seat_at c.args.self.now.table key ≡ Some seat =
    ap (λ (n : NodeState). seat_at n.table key) (sym c.self.view_is) ∙ c.seat.ensures in
    λ l ch k m at is live falls. absurd
    (false≢true (sym (free_dead g.C.Class.class_of c.args.self.now l m key ch at seat
    there c.in_default.is) ∙ ap (is_call (λ j. is_live j.life)) is ∙ live))

pub invariant_of-self : goal.invariant_of-self
invariant_of-self g c =
    let i = c.self.invariant in
    let key = c.args.key in
    let end = c.in-Some.end in
    let seat = c.seat.result.now in
    let life = c.args.life in
    let before = c.index_mut.result.now in
    let low = subst (λ (n : NodeState). key / 4 < length n.table.conns) (sym c.self.view_is) c.requires.key in
    let had = indexed c.self.inside.lives.items key before (key_low g.C.Class.class_of _ key i.0 low)
    c.index_mut.ensures.value in
    let kind = subst (λ (n : NodeState). is_of (is_client n.kind) (life_of life) ≡ true) (sym c.self.view_is)
    c.requires.kind in (
      lived_set_up g.C.Class.class_of _ i.0 i.1 key end seat c.seat.ensures c.in-Some.is life before had,
      lived_seated g.C.Class.class_of _ i.0 i.1 key end seat c.seat.ensures c.in-Some.is life before had kind
          (sym c.if-is_active.ensures),
      i.2,
      i.3,
    )

pub returns-then-is_active-clause-steps : goal.returns-then-is_active-clause-steps
returns-then-is_active-clause-steps g c =
    let i = c.self.invariant in
    let key = c.args.key in
    let end = c.in-Some.end in
    let seat = c.seat.result.now in
    let life = c.args.life in
    let before = c.index_mut.result.now in
    let low = subst (λ (n : NodeState). key / 4 < length n.table.conns) (sym c.self.view_is) c.requires.key in
    let had = indexed c.self.inside.lives.items key before (key_low g.C.Class.class_of _ key i.0 low)
    c.index_mut.ensures.value in
    rw (← c.self.view_is)
    (λ l ch k m at is live falls.
    mirrors_lived g.C.Class.class_of _ i.0 i.1 key end seat c.seat.ensures c.in-Some.is life before had l ch k
    (record { mirrors = m; channel = at; there = c.seat.ensures; names = c.in-Some.is; latest_is = is; live = live })
    falls (sym c.if-is_active.ensures))

pub returns-then-is_active-clause-ended : goal.returns-then-is_active-clause-ended
returns-then-is_active-clause-ended g c =
    let key = c.args.key in
    let seat = c.seat.result.now in
    let there : seat_at c.args.self.now.table key ≡ Some seat =
    ap (λ (n : NodeState). seat_at n.table key) (sym c.self.view_is) ∙ c.seat.ensures in
    λ l ch m at none. absurd (false≢true (sym none ∙ named_live g.C.Class.class_of c.args.self.now l m key ch at seat
    there c.in-Some.end c.in-Some.is))

pub invariant_of-self-then-is_live : goal.invariant_of-self-then-is_live
invariant_of-self-then-is_live g c =
    let i = c.self.invariant in
    let key = c.args.key in
    let end = c.in-Some.end in
    let seat = c.seat.result.now in
    let life = c.args.life in
    let before = c.index_mut.result.now in
    let low = subst (λ (n : NodeState). key / 4 < length n.table.conns) (sym c.self.view_is) c.requires.key in
    let had = indexed c.self.inside.lives.items key before (key_low g.C.Class.class_of _ key i.0 low)
    c.index_mut.ensures.value in
    let kind = subst (λ (n : NodeState). is_of (is_client n.kind) (life_of life) ≡ true) (sym c.self.view_is)
    c.requires.kind in (
      cleared_set_up g.C.Class.class_of _ i.0 i.1 key end seat c.seat.ensures c.in-Some.is life before had kind
          c.clear.new.self c.clear.ensures.keeps c.clear.ensures.idle c.clear.ensures.live,
      cleared_seated g.C.Class.class_of _ i.0 i.1 key end seat c.seat.ensures c.in-Some.is life before had kind
          c.clear.new.self c.clear.ensures.keeps c.clear.ensures.idle c.clear.ensures.live,
      i.2,
      i.3,
    )

pub returns-then-is_live-clause-steps : goal.returns-then-is_live-clause-steps
returns-then-is_live-clause-steps g c =
    let i = c.self.invariant in
    let key = c.args.key in
    let end = c.in-Some.end in
    let seat = c.seat.result.now in
    let life = c.args.life in
    let before = c.index_mut.result.now in
    let low = subst (λ (n : NodeState). key / 4 < length n.table.conns) (sym c.self.view_is) c.requires.key in
    let had = indexed c.self.inside.lives.items key before (key_low g.C.Class.class_of _ key i.0 low)
    c.index_mut.ensures.value in
    rw (← c.self.view_is)
    (λ l ch k m at is live falls.
    mirrors_cleared g.C.Class.class_of _ i.0 i.1 key end seat c.seat.ensures c.in-Some.is life before had l ch k
    (record { mirrors = m; channel = at; there = c.seat.ensures; names = c.in-Some.is; latest_is = is; live = live })
    falls c.clear.new.self c.clear.ensures.keeps c.clear.ensures.common c.clear.ensures.again
    (sym c.if-is_active.ensures) (sym c.if-is_live.ensures))

pub returns-then-is_live-clause-ended : goal.returns-then-is_live-clause-ended
returns-then-is_live-clause-ended g c =
    let key = c.args.key in
    let seat = c.seat.result.now in
    let there : seat_at c.args.self.now.table key ≡ Some seat =
    ap (λ (n : NodeState). seat_at n.table key) (sym c.self.view_is) ∙ c.seat.ensures in
    λ l ch m at none. absurd (false≢true (sym none ∙ named_live g.C.Class.class_of c.args.self.now l m key ch at seat
    there c.in-Some.end c.in-Some.is))

pub invariant_of-self-2 : goal.invariant_of-self-2
invariant_of-self-2 g c =
    let i = c.self.invariant in
    let key = c.args.key in
    let end = c.in-Some.end in
    let seat = c.seat_mut-seat.result.now in
    let there = c.seat_mut-seat.ensures.value in
    let names : seat.live ≡ Some end =
    ap (λ (s : Seat). s.live) (one_seat c.self.inside.table key seat c.seat.result.now there c.seat.ensures)
    ∙ c.in-Some.is in
    let life = c.args.life in
    let before = c.index_mut.result.now in
    let low = subst (λ (n : NodeState). key / 4 < length n.table.conns) (sym c.self.view_is) c.requires.key in
    let had = indexed c.self.inside.lives.items key before (key_low g.C.Class.class_of _ key i.0 low)
    c.index_mut.ensures.value in
    let kind = subst (λ (n : NodeState). is_of (is_client n.kind) (life_of life) ≡ true) (sym c.self.view_is)
    c.requires.kind in
    rw c.end_of.ensures (
      over_set_up g.C.Class.class_of _ i.0 i.1 key end seat there names life before had kind c.clear.new.self
          c.clear.ensures.keeps c.clear.ensures.idle c.clear.ensures.live c.leave.new.self c.leave.ensures.keeps
          c.leave.ensures.absent c.leave.ensures.live,
      over_seated g.C.Class.class_of _ i.0 i.1 key end seat there names life before had kind c.clear.new.self
          c.clear.ensures.keeps c.clear.ensures.idle c.clear.ensures.live c.leave.new.self c.leave.ensures.keeps
          c.leave.ensures.absent c.leave.ensures.live,
      i.2,
      i.3,
    )

pub returns-clause-steps : goal.returns-clause-steps
returns-clause-steps g c =
    let i = c.self.invariant in
    let key = c.args.key in
    let end = c.in-Some.end in
    let seat = c.seat_mut-seat.result.now in
    let there = c.seat_mut-seat.ensures.value in
    let names : seat.live ≡ Some end =
    ap (λ (s : Seat). s.live) (one_seat c.self.inside.table key seat c.seat.result.now there c.seat.ensures)
    ∙ c.in-Some.is in
    let life = c.args.life in
    let before = c.index_mut.result.now in
    let low = subst (λ (n : NodeState). key / 4 < length n.table.conns) (sym c.self.view_is) c.requires.key in
    let had = indexed c.self.inside.lives.items key before (key_low g.C.Class.class_of _ key i.0 low)
    c.index_mut.ensures.value in
    let kind = subst (λ (n : NodeState). is_of (is_client n.kind) (life_of life) ≡ true) (sym c.self.view_is)
    c.requires.kind in
    let less : (c.self.inside.live - 1) + 1 ≡ c.self.inside.live =
    omega (arith, i.1.count, c.clear.ensures.live, c.leave.ensures.live) in
    rw (← c.self.view_is, c.end_of.ensures)
    (λ l ch k m at is live falls.
    mirrors_over g.C.Class.class_of _ i.0 i.1 key end seat there names life before had l ch k
    (record { mirrors = m; channel = at; there = there; names = names; latest_is = is; live = live })
    falls c.clear.new.self c.clear.ensures.keeps c.clear.ensures.common c.clear.ensures.again
    (sym c.if-is_active.ensures) kind c.leave.new.self c.leave.ensures.keeps c.leave.ensures.common
    (sym c.if-is_live.ensures) (c.self.inside.live - 1) less)

pub returns-clause-ended : goal.returns-clause-ended
returns-clause-ended g c =
    let key = c.args.key in
    let seat = c.seat.result.now in
    let there : seat_at c.args.self.now.table key ≡ Some seat =
    ap (λ (n : NodeState). seat_at n.table key) (sym c.self.view_is) ∙ c.seat.ensures in
    λ l ch m at none. absurd (false≢true (sym none ∙ named_live g.C.Class.class_of c.args.self.now l m key ch at seat
    there c.in-Some.end c.in-Some.is))

pub returns-clause-same : goal.returns-clause-same
returns-clause-same g c =
    let i = c.self.invariant in
    let key = c.args.key in
    let end = c.in-Some.end in
    let seat = c.seat_mut-seat.result.now in
    let there = c.seat_mut-seat.ensures.value in
    let names : seat.live ≡ Some end =
    ap (λ (s : Seat). s.live) (one_seat c.self.inside.table key seat c.seat.result.now there c.seat.ensures)
    ∙ c.in-Some.is in
    let life = c.args.life in
    let before = c.index_mut.result.now in
    let low = subst (λ (n : NodeState). key / 4 < length n.table.conns) (sym c.self.view_is) c.requires.key in
    let had = indexed c.self.inside.lives.items key before (key_low g.C.Class.class_of _ key i.0 low)
    c.index_mut.ensures.value in
    let kind = subst (λ (n : NodeState). is_of (is_client n.kind) (life_of life) ≡ true) (sym c.self.view_is)
    c.requires.kind in
    rw (← c.self.view_is, c.end_of.ensures)
    (over_kept g.C.Class.class_of _ i.0 i.1 key end seat there names life before had kind c.clear.new.self
    c.clear.ensures.keeps c.clear.ensures.idle c.clear.ensures.live c.leave.new.self c.leave.ensures.keeps
    c.leave.ensures.absent c.leave.ensures.live)

pub returns-in_default-clause-others : goal.returns-in_default-clause-others
returns-in_default-clause-others g c =
    λ q apart. same_itself _ q

pub returns-then-is_active-clause-others : goal.returns-then-is_active-clause-others
returns-then-is_active-clause-others g c =
    rw (← c.self.view_is)
    (same_with_life _ c.self.invariant.1 c.args.key c.in-Some.end c.seat.result.now c.seat.ensures c.in-Some.is
    c.args.life)

pub returns-then-is_live-clause-others : goal.returns-then-is_live-clause-others
returns-then-is_live-clause-others g c =
    rw (← c.self.view_is)
    (same_cleared _ c.self.invariant.1 c.args.key c.in-Some.end c.seat.result.now c.seat.ensures c.in-Some.is
    c.args.life
    c.clear.new.self c.clear.ensures.keeps)

pub returns-clause-others : goal.returns-clause-others
returns-clause-others g c =
    rw (← c.self.view_is)
    (same_over _ c.self.invariant.1 c.args.key c.in-Some.end c.seat.result.now c.seat.ensures c.in-Some.is c.args.life
    c.clear.new.self c.clear.ensures.keeps c.leave.new.self c.leave.ensures.keeps _ _)

pub returns-in_default-clause-idle : goal.returns-in_default-clause-idle
returns-in_default-clause-idle g c =
    let n = c.args.self.now in
    let key = c.args.key in
    λ idle. end_free n key c.seat.result.now
    (ap (λ (n : NodeState). seat_at n.table key) (sym c.self.view_is) ∙ c.seat.ensures) c.in_default.is

pub returns-then-is_active-clause-idle : goal.returns-then-is_active-clause-idle
returns-then-is_active-clause-idle g c =
    λ idle. absurd (false≢true (sym idle ∙ sym c.if-is_active.ensures))

pub returns-then-is_live-clause-idle : goal.returns-then-is_live-clause-idle
returns-then-is_live-clause-idle g c =
    let key = c.args.key in
    let before = c.index_mut.result.now in
    let low = subst (λ (n : NodeState). key / 4 < length n.table.conns) (sym c.self.view_is) c.requires.key in
    let had = indexed c.self.inside.lives.items key before (key_low g.C.Class.class_of _ key c.self.invariant.0 low)
    c.index_mut.ensures.value in
    λ idle. idle_cleared _ c.self.invariant.1 key c.in-Some.end c.seat.result.now c.seat.ensures c.in-Some.is
    c.args.life before had idle c.clear.new.self

pub returns-clause-idle : goal.returns-clause-idle
returns-clause-idle g c =
    λ idle. idle_over _ c.self.invariant.1 c.args.key c.in-Some.end c.seat.result.now c.seat.ensures c.in-Some.is
    c.args.life c.leave.new.self _ (c.self.inside.live - 1) refl
