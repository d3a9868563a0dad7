use Rattle.std.proofs.Common.{◌≡◌, ◌<◌, ◌/◌, true, length, ap, sym, subst, ◌∙◌}
use Rattle.rx_rules.specs.Setup.{is_client}
use Rattle.rx_table.specs.Records.{seat_at}
use Rattle.rx_node.specs.Lives.{is_of, life_of}
use Rattle.rx_node.specs.Node.{NodeState}
use Rattle.rx_node.proofs.Steps.ActiveSteps.{indexed, key_low}
use Rattle.rx_node.proofs.StartSeats.{Opens, mirrors_opened, opened_kept, opened_seated, opened_set_up}
use Rattle.rx_node.proofs.SameChannels.{same_opened}
use Rattle.rx_node.proofs.node.Node.start.Goals as goal

pub invariant_of-self-2 : goal.invariant_of-self-2
invariant_of-self-2 g c =
    let i = c.self.invariant in
    let key = c.args.key in
    let end = c.in-Some.end in
    let old = c.seat_mut.result.now in
    let life = c.args.life in
    let before = c.index_mut.result.now in
    let low = subst (λ (n : NodeState). key / 4 < length n.table.conns) (sym c.self.view_is) c.requires.key in
    let by : Opens _ key end old life before c.start.new.self = record {
      there = c.seat_mut.ensures.value;
      free = c.requires.free old
          (ap (λ (n : NodeState). seat_at n.table key) (sym c.self.view_is) ∙ c.seat_mut.ensures.value);
      had = indexed c.self.inside.lives.items key before (key_low g.C.Class.class_of _ key i.0 low)
          c.index_mut.ensures.value;
      active = c.requires.life;
      kind = subst (λ (n : NodeState). is_of (is_client n.kind) (life_of life) ≡ true) (sym c.self.view_is)
          c.requires.kind;
      absent = c.in-Some.ensures.absent;
      keeps = c.in-Some.ensures.keeps;
      stands = c.in-Some.ensures.stands;
      count = c.in-Some.ensures.live;
      common = c.start.ensures.common;
    } in
    rw c.fresh.ensures (
      opened_set_up g.C.Class.class_of _ i.0 i.1 key end old life before c.start.new.self by c.args.number,
      opened_seated g.C.Class.class_of _ i.0 i.1 key end old life before c.start.new.self by c.args.number,
      i.2,
      i.3,
    )

pub returns-clause-steps : goal.returns-clause-steps
returns-clause-steps g c =
    let i = c.self.invariant in
    let key = c.args.key in
    let end = c.in-Some.end in
    let old = c.seat_mut.result.now in
    let life = c.args.life in
    let before = c.index_mut.result.now in
    let low = subst (λ (n : NodeState). key / 4 < length n.table.conns) (sym c.self.view_is) c.requires.key in
    let by : Opens _ key end old life before c.start.new.self = record {
      there = c.seat_mut.ensures.value;
      free = c.requires.free old
          (ap (λ (n : NodeState). seat_at n.table key) (sym c.self.view_is) ∙ c.seat_mut.ensures.value);
      had = indexed c.self.inside.lives.items key before (key_low g.C.Class.class_of _ key i.0 low)
          c.index_mut.ensures.value;
      active = c.requires.life;
      kind = subst (λ (n : NodeState). is_of (is_client n.kind) (life_of life) ≡ true) (sym c.self.view_is)
          c.requires.kind;
      absent = c.in-Some.ensures.absent;
      keeps = c.in-Some.ensures.keeps;
      stands = c.in-Some.ensures.stands;
      count = c.in-Some.ensures.live;
      common = c.start.ensures.common;
    } in
    rw (← c.self.view_is, c.fresh.ensures)
    (λ l ch m at orderly roomy.
    mirrors_opened g.C.Class.class_of _ i.0 i.1 key end old life before c.start.new.self by c.args.number
    c.requires.number l ch m at orderly roomy)

pub returns-clause-same : goal.returns-clause-same
returns-clause-same g c =
    let i = c.self.invariant in
    let key = c.args.key in
    let end = c.in-Some.end in
    let old = c.seat_mut.result.now in
    let life = c.args.life in
    let before = c.index_mut.result.now in
    let low = subst (λ (n : NodeState). key / 4 < length n.table.conns) (sym c.self.view_is) c.requires.key in
    let by : Opens _ key end old life before c.start.new.self = record {
      there = c.seat_mut.ensures.value;
      free = c.requires.free old
          (ap (λ (n : NodeState). seat_at n.table key) (sym c.self.view_is) ∙ c.seat_mut.ensures.value);
      had = indexed c.self.inside.lives.items key before (key_low g.C.Class.class_of _ key i.0 low)
          c.index_mut.ensures.value;
      active = c.requires.life;
      kind = subst (λ (n : NodeState). is_of (is_client n.kind) (life_of life) ≡ true) (sym c.self.view_is)
          c.requires.kind;
      absent = c.in-Some.ensures.absent;
      keeps = c.in-Some.ensures.keeps;
      stands = c.in-Some.ensures.stands;
      count = c.in-Some.ensures.live;
      common = c.start.ensures.common;
    } in
    rw (← c.self.view_is, c.fresh.ensures)
    (opened_kept g.C.Class.class_of _ i.0 i.1 key end old life before c.start.new.self by c.args.number)

pub returns-clause-others : goal.returns-clause-others
returns-clause-others g c =
    let i = c.self.invariant in
    let end = c.in-Some.end in
    rw (← c.self.view_is)
    (same_opened _ i.1 c.args.key end c.args.life c.start.new.self c.in-Some.ensures.absent c.in-Some.ensures.keeps _ _)
