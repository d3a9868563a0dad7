use Rattle.std.proofs.Common.{◌∙◌, ap, subst, false, refl}
use Rattle.rx_model.specs.Body.{Body}
use Rattle.rx_model.specs.Spelling.{made}
use Rattle.rx_packet.specs.Seen.{message_with_head}
use Rattle.rx_node.specs.Mirrors.{Mirrors}
use Rattle.rx_node.specs.Node.{NodeState}
use Rattle.rx_node.proofs.GivenOwing.{challenge_given}
use Rattle.rx_node.proofs.Heads.{challenge_written}
use Rattle.rx_node.proofs.KeptNode.{alike_with_seat, still_node, still_seated, still_set_up}
use Rattle.rx_node.proofs.Steps.OwingSteps.{mirrors_owing}
use Rattle.rx_node.proofs.SameChannels.{same_with_seat}
use Rattle.rx_node.proofs.node.Node.give_challenge.Goals as goal

pub invariant_of-self : goal.invariant_of-self
invariant_of-self g c =
    let i = c.self.invariant in
    let seat = c.seat_mut.result.now in
    let like = alike_with_seat c.self.inside.table c.args.key seat (record seat { owed_challenge = false })
    c.seat_mut.ensures.value refl in
    (still_set_up g.C.Class.class_of _ _ like i.0, still_seated g.C.Class.class_of _ _ like i.1, i.2, i.3)

pub returns-clause-steps : goal.returns-clause-steps
returns-clause-steps g c =
    let seat = c.seat_mut.result.now in
    rw (← c.self.view_is)
    (λ l ch m at. mirrors_owing g.C.Class.class_of _ l m c.args.key ch at seat (record seat { owed_challenge = false })
    c.seat_mut.ensures.value (λ q. record q { owed_challenge = false }) (challenge_given seat))

pub returns-clause-same : goal.returns-clause-same
returns-clause-same g c =
    let seat = c.seat_mut.result.now in
    let like = alike_with_seat c.self.inside.table c.args.key seat (record seat { owed_challenge = false })
    c.seat_mut.ensures.value refl in
    rw (← c.self.view_is) (still_node g.C.Class.class_of _ _ like)

pub returns-clause-written : goal.returns-clause-written
returns-clause-written g c =
    rw (← c.self.view_is)
    (λ l ch m at. c.write_msg.ensures.written
    ∙ ap (λ (body : Body). made (message_with_head c.args.head.now body))
    (challenge_written g.C.Class.class_of _ l m c.args.key ch at c.latest.result c.nonce-nonce.result _
    c.challenge-count.new.to c.challenge-count.result
    (c.latest.ensures l ch (subst (λ (n : NodeState). Mirrors g.C.Class.class_of n l) c.self.view_is m) at)
    c.nonce-nonce.ensures
    c.challenge-count.ensures.written))

pub returns-clause-others : goal.returns-clause-others
returns-clause-others g c = rw (← c.self.view_is) (λ q apart. same_with_seat _ c.args.key _ q apart)
