use Rattle.std.proofs.Common.{refl, true}
use Rattle.rx_model.specs.Names.{channel_of}
use Rattle.rx_node.specs.Node.{setup_of}
use Rattle.rx_node.proofs.KeptNode.{alike_with_seat, still_node, still_seated, still_set_up}
use Rattle.rx_node.proofs.Steps.OwingSteps.{mirrors_owing}
use Rattle.rx_node.proofs.KeptKeys.{by_looks}
use Rattle.rx_node.proofs.OwedAgain.{challenged_no, challenged_yes}
use Rattle.rx_node.proofs.SeatChanges.{challenge_owing}
use Rattle.rx_node.proofs.SameChannels.{same_with_seat}
use Rattle.rx_node.proofs.SameChannels.{same_itself}
use Rattle.rx_node.proofs.node.Node.challenge.Goals as goal

pub invariant_of-self : goal.invariant_of-self
invariant_of-self g c =
    let i = c.self.invariant in
    let seat = c.seat_mut.result.now in
    let like = alike_with_seat c.self.inside.table c.args.key seat (record seat { owed_challenge = true })
    c.seat_mut.ensures.value refl in
    (still_set_up g.C.Class.class_of _ _ like i.0, still_seated g.C.Class.class_of _ _ like i.1, i.2, i.3)

pub returns-then-challenges-clause-steps : goal.returns-then-challenges-clause-steps
returns-then-challenges-clause-steps g c = λ l d m at.
    (let seat = c.seat_mut.result.now in
    by_looks g.C.Class.class_of _ _ _
    (challenged_yes (setup_of g.C.Class.class_of c.args.self.now) d l c.challenges.result
    (c.challenges.ensures l (channel_of d) m at) c.if-challenges.true)
    (mirrors_owing g.C.Class.class_of _ l (rw (← c.self.view_is) at m) c.args.key (channel_of d) at seat _
    c.seat_mut.ensures.value (λ q. record q { owed_challenge = true }) (challenge_owing seat)))

pub returns-then-challenges-clause-same : goal.returns-then-challenges-clause-same
returns-then-challenges-clause-same g c =
    let seat = c.seat_mut.result.now in
    let like = alike_with_seat c.self.inside.table c.args.key seat (record seat { owed_challenge = true })
    c.seat_mut.ensures.value refl in
    rw (← c.self.view_is) (still_node g.C.Class.class_of _ _ like)

pub returns-else-challenges-clause-steps : goal.returns-else-challenges-clause-steps
returns-else-challenges-clause-steps g c = λ l d m at.
    by_looks g.C.Class.class_of _ _ _
    (challenged_no (setup_of g.C.Class.class_of c.args.self.now) d l c.challenges.result
    (c.challenges.ensures l (channel_of d) m at) c.if-challenges.false) m

pub returns-then-challenges-clause-others : goal.returns-then-challenges-clause-others
returns-then-challenges-clause-others g c = rw (← c.self.view_is) (λ q apart. same_with_seat _ c.args.key _ q apart)

pub returns-else-challenges-clause-others : goal.returns-else-challenges-clause-others
returns-else-challenges-clause-others g c = λ q apart. same_itself _ q
