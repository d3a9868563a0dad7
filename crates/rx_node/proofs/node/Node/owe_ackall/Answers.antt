use Rattle.std.proofs.Common.{refl, true, false, ap, sym, Bool, ◌∙◌}
use Rattle.rx_rules.specs.After.{owing_ackall}
use Rattle.rx_rules.specs.Looks.{on_channel}
use Rattle.rx_node.proofs.KeptNode.{alike_with_seat, still_node, still_seated, still_set_up}
use Rattle.rx_node.proofs.Steps.OwingSteps.{mirrors_owing}
use Rattle.rx_node.proofs.KeptKeys.{by_looks}
use Rattle.rx_node.proofs.ChannelChanges.{channel_same}
use Rattle.rx_node.proofs.SeatChanges.{ackall_owing}
use Rattle.rx_node.proofs.SameChannels.{same_with_seat}
use Rattle.rx_node.proofs.SameChannels.{same_itself}
use Rattle.rx_node.proofs.node.Node.owe_ackall.Goals as goal

pub invariant_of-self : goal.invariant_of-self
invariant_of-self g c =
    let i = c.self.invariant in
    let seat = c.seat_mut.result.now in
    let like = alike_with_seat c.self.inside.table c.args.key seat (record seat { owed_ackall = true })
    c.seat_mut.ensures.value refl in
    (still_set_up g.C.Class.class_of _ _ like i.0, still_seated g.C.Class.class_of _ _ like i.1, i.2, i.3)

pub returns-then-owes-clause-steps : goal.returns-then-owes-clause-steps
returns-then-owes-clause-steps g c =
    let seat = c.seat_mut.result.now in
    rw (← c.self.view_is)
    (λ l ch m at. by_looks g.C.Class.class_of _ _ _
    (ap (λ (b : Bool). on_channel ch (owing_ackall b) l) (sym c.if-owes.true))
    (mirrors_owing g.C.Class.class_of _ l m c.args.key ch at seat _ c.seat_mut.ensures.value
    (owing_ackall true) (ackall_owing seat)))

pub returns-then-owes-clause-same : goal.returns-then-owes-clause-same
returns-then-owes-clause-same g c =
    let seat = c.seat_mut.result.now in
    let like = alike_with_seat c.self.inside.table c.args.key seat (record seat { owed_ackall = true })
    c.seat_mut.ensures.value refl in
    rw (← c.self.view_is) (still_node g.C.Class.class_of _ _ like)

pub returns-else-owes-clause-steps : goal.returns-else-owes-clause-steps
returns-else-owes-clause-steps g c = λ l ch m at.
    by_looks g.C.Class.class_of _ _ _
    (sym (channel_same ch (owing_ackall false) l (λ q. refl))
    ∙ ap (λ (b : Bool). on_channel ch (owing_ackall b) l) (sym c.if-owes.false)) m

pub returns-then-owes-clause-others : goal.returns-then-owes-clause-others
returns-then-owes-clause-others g c = rw (← c.self.view_is) (λ q apart. same_with_seat _ c.args.key _ q apart)

pub returns-else-owes-clause-others : goal.returns-else-owes-clause-others
returns-else-owes-clause-others g c = λ q apart. same_itself _ q
