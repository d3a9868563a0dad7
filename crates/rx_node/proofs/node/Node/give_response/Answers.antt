use Rattle.std.proofs.Common.{◌≡◌, ◌∙◌, ℕ, List, take, Some, None, option_map, ap, sym, refl}
use Rattle.rx_model.specs.Body as bodies
use Rattle.rx_model.specs.Spelling.{made}
use Rattle.rx_packet.specs.Seen.{message_with_head}
use Rattle.rx_node.proofs.GivenOwing.{response_given}
use Rattle.rx_node.proofs.KeptNode.{alike_with_seat, still_node, still_seated, still_set_up}
use Rattle.rx_node.proofs.Steps.OwingSteps.{mirrors_owing}
use Rattle.rx_node.proofs.SameChannels.{same_with_seat}
use Rattle.rx_node.proofs.node.Node.give_response.Goals as goal
use Rattle.rx_node.proofs.node.Node.give_response.Goals.{in-Some, in-None}

pub invariant_of-self : goal.invariant_of-self
invariant_of-self g c =
    let i = c.self.invariant in
    let seat = c.seat_mut.result.now in
    let like = alike_with_seat c.self.inside.table c.args.key seat (record seat { owed_response = None })
    c.seat_mut.ensures.value refl in
    rw c.take.ensures.after
    (still_set_up g.C.Class.class_of _ _ like i.0, still_seated g.C.Class.class_of _ _ like i.1, i.2, i.3)

pub returns-clause-steps : goal.returns-clause-steps
returns-clause-steps g c =
    let seat = c.seat_mut.result.now in
    rw (← c.self.view_is, c.take.ensures.after)
    (λ l ch m at. mirrors_owing g.C.Class.class_of _ l m c.args.key ch at seat (record seat { owed_response = None })
    c.seat_mut.ensures.value (λ q. record q { owed_response = None }) (response_given seat))

pub returns-clause-same : goal.returns-clause-same
returns-clause-same g c =
    let seat = c.seat_mut.result.now in
    let like = alike_with_seat c.self.inside.table c.args.key seat (record seat { owed_response = None })
    c.seat_mut.ensures.value refl in
    rw (← c.self.view_is, c.take.ensures.after) (still_node g.C.Class.class_of _ _ like)

pub returns-clause-written : goal.returns-clause-written
returns-clause-written g c =
    rw (← c.self.view_is)
    (λ l ch bytes m at owed. (
    let seat = c.seat_mut.result.now in
    let its : option_map (λ bs. bs.items) seat.owed_response ≡ Some bytes =
    (m.channels c.args.key ch seat at c.seat_mut.ensures.value).owes.response ∙ owed in
    let taken : option_map (λ bs. bs.items) c.take.result ≡ Some bytes =
    ap (option_map (λ bs. bs.items)) c.take.ensures.value ∙ its in
    elim c.match-take.branch [
      | in-Some w ↦ (
          let same : w.in-Some.bytes.items ≡ bytes =
          (let is = sym (ap (option_map (λ bs. bs.items)) w.in-Some.is) ∙ taken in cc (is)) in
          (λ i. take (w.result-is i) (w.to-is i)) ∙ w.write_msg.ensures.written
          ∙ ap (λ (bs : List ℕ). made (message_with_head c.args.head.now (bodies.Response bs)))
          (w.as_slice.ensures.value ∙ same))
      | in-None w ↦ (let is = sym (ap (option_map (λ bs. bs.items)) w.in-None.is) ∙ taken in absurd (cc (is)))
    ]))

pub returns-clause-others : goal.returns-clause-others
returns-clause-others g c = rw (← c.self.view_is) (λ q apart. same_with_seat _ c.args.key _ q apart)
