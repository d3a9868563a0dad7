use Rattle.std.proofs.Common.{refl}
use Rattle.rx_node.proofs.KeptNode.{alike_with_seat, still_node, still_seated, still_set_up}
use Rattle.rx_node.proofs.Steps.OwingSteps.{mirrors_owing}
use Rattle.rx_node.proofs.SeatChanges.{busy_owing}
use Rattle.rx_rules.specs.After.{owing_busy}
use Rattle.rx_node.proofs.SameChannels.{same_with_seat}
use Rattle.rx_node.proofs.node.Node.owe_busy.Goals as goal

pub invariant_of-self : goal.invariant_of-self
invariant_of-self g c =
    let i = c.self.invariant in
    let seat = c.seat_mut.result.now in
    let like = alike_with_seat c.self.inside.table c.args.key seat (record seat { owed_busy = _ })
    c.seat_mut.ensures.value refl in
    (still_set_up g.C.Class.class_of _ _ like i.0, still_seated g.C.Class.class_of _ _ like i.1, i.2, i.3)

pub returns-clause-steps : goal.returns-clause-steps
returns-clause-steps g c =
    let seat = c.seat_mut.result.now in
    rw (← c.self.view_is)
    (λ l ch m at. mirrors_owing g.C.Class.class_of _ l m c.args.key ch at seat _ c.seat_mut.ensures.value
    (owing_busy c.args.number) (busy_owing seat c.args.number))

pub returns-clause-same : goal.returns-clause-same
returns-clause-same g c =
    let seat = c.seat_mut.result.now in
    let like = alike_with_seat c.self.inside.table c.args.key seat (record seat { owed_busy = _ })
    c.seat_mut.ensures.value refl in
    rw (← c.self.view_is) (still_node g.C.Class.class_of _ _ like)

pub returns-clause-others : goal.returns-clause-others
returns-clause-others g c = rw (← c.self.view_is) (λ q apart. same_with_seat _ c.args.key _ q apart)
