use Rattle.std.proofs.Common.{◌≡◌, ◌<◌, ◌++◌, [], ◌∷◌, length, None, refl, sym, subst, arith}
use Rattle.rx_model.specs.Names.{connection_of}
use Rattle.rx_table.specs.Records.{Records, fresh_record, place_of}
use Rattle.rx_node.specs.Node.{NodeState}
use Rattle.rx_node.proofs.EnteredSeats.{entered_named, entered_set_up, fewer_seated}
use Rattle.rx_node.proofs.Steps.IdleSteps.{unknown_at}
use Rattle.rx_node.proofs.Steps.PlaceSteps.{mirrors_entered}
use Rattle.rx_node.proofs.SameChannels.{same_entered}
use Rattle.rx_node.proofs.node.Node.enter.Goals as goal
use Rattle.rx_node.proofs.node.Node.enter.Goals.{in-Ok, in-Err}

pub invariant_of-self : goal.invariant_of-self
invariant_of-self g c =
    let i = c.self.invariant in
    let x = connection_of c.args.c.now in
    let nonce = c.args.nonce in
    let now = c.self.inside.moment in
    let low : length c.self.inside.table.conns < c.self.inside.limits.conns =
    subst (λ (n : NodeState). length n.table.conns < n.limits.conns) (sym c.self.view_is) c.requires.room in
    let table : Records =
    record c.self.inside.table { conns = c.self.inside.table.conns ++ fresh_record x nonce now ∷ [] } in
    let is : c.enter.new.self ≡ table = elim c.match-enter.branch [
      | in-Ok w ↦ w.in-Ok.ensures.ok
      | in-Err w ↦ absurd (let full = w.in-Err.ensures.full.0 refl in let room = i.0.room in omega (arith, full, room))
    ] in
    rw (is, c.push_reserved.ensures.items) (
      entered_set_up g.C.Class.class_of _ i.0 (fresh_record x nonce now) c.args.link low,
      fewer_seated _ _ _ (entered_named _ i.1 x nonce now c.requires.cid) i.1,
      (let same = c.push_reserved.ensures.capacity in let room = i.2 in omega (arith, same, room)),
      i.3,
    )

pub returns-clause-steps : goal.returns-clause-steps
returns-clause-steps g c =
    let i = c.self.invariant in
    let x = connection_of c.args.c.now in
    let nonce = c.args.nonce in
    let now = c.self.inside.moment in
    let low : length c.self.inside.table.conns < c.self.inside.limits.conns =
    subst (λ (n : NodeState). length n.table.conns < n.limits.conns) (sym c.self.view_is) c.requires.room in
    let table : Records =
    record c.self.inside.table { conns = c.self.inside.table.conns ++ fresh_record x nonce now ∷ [] } in
    let is : c.enter.new.self ≡ table = elim c.match-enter.branch [
      | in-Ok w ↦ w.in-Ok.ensures.ok
      | in-Err w ↦ absurd (let full = w.in-Err.ensures.full.0 refl in let room = i.0.room in omega (arith, full, room))
    ] in
    let absent = subst (λ (n : NodeState). place_of n.table x ≡ None) (sym c.self.view_is) c.requires.absent in
    rw (← c.self.view_is, is, c.push_reserved.ensures.items)
    (λ l m numbered orderly. mirrors_entered g.C.Class.class_of _ l m x c.args.link nonce numbered
    (unknown_at g.C.Class.class_of _ l m x absent) orderly)

pub returns-clause-places : goal.returns-clause-places
returns-clause-places g c =
    let i = c.self.invariant in
    let x = connection_of c.args.c.now in
    let table : Records =
    record c.self.inside.table {
      conns = c.self.inside.table.conns ++ fresh_record x c.args.nonce c.self.inside.moment ∷ [];
    } in
    let low : length c.self.inside.table.conns < c.self.inside.limits.conns =
    subst (λ (n : NodeState). length n.table.conns < n.limits.conns) (sym c.self.view_is) c.requires.room in
    let is : c.enter.new.self ≡ table = elim c.match-enter.branch [
      | in-Ok w ↦ w.in-Ok.ensures.ok
      | in-Err w ↦ absurd (let full = w.in-Err.ensures.full.0 refl in let room = i.0.room in omega (arith, full, room))
    ] in
    rw (← c.self.view_is, is) (λ q apart. same_entered _ _ _ q apart)
