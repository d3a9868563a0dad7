use Rattle.std.proofs.Common.{◌≡◌, ◌∙◌, sym, ap, subst, refl}
use Rattle.rx_model.specs.declared.answers.Took.{Took}
use Rattle.rx_model.specs.declared.answers.Took.TheVariants as tooks
use Rattle.rx_model.specs.declared.names.CallName.{CallName}
use Rattle.rx_model.specs.declared.wire.TheConstants.{RX_PROTOCOL_ERROR}
use Rattle.rx_model.specs.Body as bodies
use Rattle.rx_model.specs.Names.{channel_of, connection_of}
use Rattle.rx_packet.specs.Seen.{message_with_head}
use Rattle.rx_rules.specs.After.{taken_with}
use Rattle.rx_rules.specs.Life.{after_code}
use Rattle.rx_rules.specs.Looks.{Looks, is_proved, on_life}
use Rattle.rx_node.specs.Mirrors.{Mirrors}
use Rattle.rx_node.specs.Node.{setup_of}
use Rattle.rx_node.proofs.KeptKeys.{by_looks, kept_both, kept_key, seat_key}
use Rattle.rx_node.proofs.Steps.TakingSteps.{response_is, right_mirrors, same_key}
use Rattle.rx_node.proofs.SameChannels.{others_then, places_same, same_itself, same_then}
use Rattle.rx_node.proofs.node.Node.take_response.Goals as goal

pub is_right-requires : goal.is_right-requires
is_right-requires g c = seat_key c.args.self.now c.args.key c.requires.seat c.requires.there

pub prove-requires : goal.prove-requires
prove-requires g c =
    kept_key _ _ c.args.key c.hear-took.ensures.same
    (seat_key c.args.self.now c.args.key c.requires.seat c.requires.there)

pub is_proved-requires : goal.is_proved-requires
is_proved-requires g c = seat_key c.args.self.now c.args.key c.requires.seat c.requires.there

pub reach-requires : goal.reach-requires
reach-requires g c = seat_key c.args.self.now c.args.key c.requires.seat c.requires.there

pub owe_abort-requires : goal.owe_abort-requires
owe_abort-requires g c =
    kept_key _ _ c.args.key c.reach.ensures.same (seat_key c.args.self.now c.args.key c.requires.seat c.requires.there)

pub returns-then-is_right-clause-answered : goal.returns-then-is_right-clause-answered
returns-then-is_right-clause-answered g c = λ l k own.
    (let s = setup_of g.C.Class.class_of c.args.self.now in
    let bytes = c.args.answer.now in
    c.hear-took.ensures.answered l c.args.c.now k own
    ∙ response_is s l c.args.c.now k (message_with_head c.args.head.now (bodies.Response bytes)) bytes _
    (is_proved l (connection_of c.args.c.now)) own.call (sym c.if-is_right.true ∙ c.is_right.ensures l k own) refl)

pub returns-then-is_right-clause-steps : goal.returns-then-is_right-clause-steps
returns-then-is_right-clause-steps g c = λ l k own.
    (let class = g.C.Class.class_of in
    let s = setup_of class c.args.self.now in
    let m = message_with_head c.args.head.now (bodies.Response c.args.answer.now) in
    let d = c.args.c.now in
    let heard : c.hear-took.result ≡ tooks.Heard = c.hear-took.ensures.answered l d k own in
    by_looks class _ _ _ (ap (λ (t : Took). taken_with s t d m l) (sym heard))
    (right_mirrors class c.args.self.now c.hear-took.new.self c.prove.new.self l c.args.key d k
    c.hear-took.result m own heard
    (c.hear-took.ensures.steps l d k own) (λ n is at. c.prove.ensures.steps n (channel_of d) is at)))

pub returns-then-is_right-clause-same : goal.returns-then-is_right-clause-same
returns-then-is_right-clause-same g c = kept_both _ _ _ c.hear-took.ensures.same c.prove.ensures.same

pub returns-then-is_proved-clause-answered : goal.returns-then-is_proved-clause-answered
returns-then-is_proved-clause-answered g c = λ l k own.
    (let bytes = c.args.answer.now in
    response_is (setup_of g.C.Class.class_of c.args.self.now) l c.args.c.now k
    (message_with_head c.args.head.now (bodies.Response bytes)) bytes _ _ own.call
    (sym c.if-is_right.false ∙ c.is_right.ensures l k own)
    (sym c.if-is_proved.true ∙ c.is_proved.ensures l (channel_of c.args.c.now) own.mirrors own.channel))

pub returns-clause-answered : goal.returns-clause-answered
returns-clause-answered g c = λ l k own.
    (let bytes = c.args.answer.now in
    response_is (setup_of g.C.Class.class_of c.args.self.now) l c.args.c.now k
    (message_with_head c.args.head.now (bodies.Response bytes)) bytes _ _ own.call
    (sym c.if-is_right.false ∙ c.is_right.ensures l k own)
    (sym c.if-is_proved.false ∙ c.is_proved.ensures l (channel_of c.args.c.now) own.mirrors own.channel))

pub returns-clause-steps : goal.returns-clause-steps
returns-clause-steps g c = λ l k own.
    (let class = g.C.Class.class_of in
    let d = c.args.c.now in
    let after : Looks = on_life d (after_code RX_PROTOCOL_ERROR) l in
    let reached : Mirrors class c.reach.new.self after =
    subst (λ (x : CallName). Mirrors class c.reach.new.self (on_life x (after_code RX_PROTOCOL_ERROR) l)) own.latest
    (c.reach.ensures.steps l (channel_of d) own.mirrors own.channel) in
    c.owe_abort.ensures.steps after (channel_of d) reached
    (same_key l after c.args.key (channel_of d) refl own.channel))

pub returns-clause-same : goal.returns-clause-same
returns-clause-same g c = kept_both _ _ _ c.reach.ensures.same c.owe_abort.ensures.same

pub returns-then-is_right-clause-places : goal.returns-then-is_right-clause-places
returns-then-is_right-clause-places g c =
    λ q apart. same_then _ _ _ q (places_same _ _ c.args.key c.hear-took.ensures.others q apart)
    (c.prove.ensures.places q apart)

pub returns-then-is_proved-clause-places : goal.returns-then-is_proved-clause-places
returns-then-is_proved-clause-places g c =
    λ q apart. same_itself _ q

pub returns-clause-places : goal.returns-clause-places
returns-clause-places g c =
    places_same _ _ c.args.key
    (others_then _ _ _ c.args.key c.reach.ensures.others c.owe_abort.ensures.others)
