use Rattle.std.proofs.Common.{refl, rules, Some, None, subst, sym, w32}
use Rattle.std.proofs.lemmas.Int.{to_z-of_z}
use Rattle.rx_rules.specs.After.{owing_abort}
use Rattle.rx_node.specs.Mirrors.{Mirrors}
use mir.Val.{SFits}
use Rattle.rx_node.proofs.KeptNode.{alike_with_seat, still_node, still_seated, still_set_up}
use Rattle.rx_node.proofs.Steps.OwingSteps.{mirrors_owing}
use Rattle.rx_node.proofs.ChannelChanges.{channel_same}
use Rattle.rx_node.proofs.SeatChanges.{abort_owing}
use Rattle.rx_node.proofs.SameChannels.{same_with_seat}
use Rattle.rx_node.proofs.SameChannels.{same_itself}
use Rattle.rx_node.proofs.node.Node.owe_abort.Goals as goal

pub invariant_of-self : goal.invariant_of-self
invariant_of-self g c =
    let i = c.self.invariant in
    let seat = c.seat_mut.result.now in
    let like = alike_with_seat c.self.inside.table c.args.key seat (record seat { owed_abort = _ })
    c.seat_mut.ensures.value refl in
    (still_set_up g.C.Class.class_of _ _ like i.0, still_seated g.C.Class.class_of _ _ like i.1, i.2, i.3)

pub returns-in-Some-clause-steps : goal.returns-in-Some-clause-steps
returns-in-Some-clause-steps g c =
    let seat = c.seat_mut.result.now in
    let code = c.in-Some.code in
    let fits : SFits w32 code = search rules in
    rw (← c.self.view_is, c.in-Some.is)
    (λ l ch m at. mirrors_owing g.C.Class.class_of _ l m c.args.key ch at seat _ c.seat_mut.ensures.value
    (owing_abort (Some code)) (abort_owing seat _ code (to_z-of_z w32 code fits)))

pub returns-in-Some-clause-same : goal.returns-in-Some-clause-same
returns-in-Some-clause-same g c =
    let seat = c.seat_mut.result.now in
    let like = alike_with_seat c.self.inside.table c.args.key seat (record seat { owed_abort = _ })
    c.seat_mut.ensures.value refl in
    rw (← c.self.view_is) (still_node g.C.Class.class_of _ _ like)

pub returns-in_default-clause-steps : goal.returns-in_default-clause-steps
returns-in_default-clause-steps g c =
    rw c.in_default.is
    (λ l ch m at. subst (Mirrors g.C.Class.class_of c.args.self.now)
    (sym (channel_same ch (owing_abort None) l (λ q. refl))) m)

pub returns-in-Some-clause-others : goal.returns-in-Some-clause-others
returns-in-Some-clause-others g c = rw (← c.self.view_is) (λ q apart. same_with_seat _ c.args.key _ q apart)

pub returns-in_default-clause-others : goal.returns-in_default-clause-others
returns-in_default-clause-others g c = λ q apart. same_itself _ q
