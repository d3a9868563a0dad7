use Rattle.std.proofs.Common.{◌≡◌, ◌∙◌, true, ap, sym}
use Rattle.rx_model.specs.declared.answers.Took.{Took}
use Rattle.rx_model.specs.declared.answers.Took.TheVariants as tooks
use Rattle.rx_model.specs.Body.{Body}
use Rattle.rx_model.specs.Names.{channel_of}
use Rattle.rx_packet.specs.Seen.{body_of, message_of}
use Rattle.rx_rules.specs.After.{challenged, settled, taken_at, taken_heard, taken_with}
use Rattle.rx_rules.specs.Looks.{Looks, on_call}
use Rattle.rx_rules.specs.Setup.{Setup}
use Rattle.rx_node.specs.Node.{setup_of}
use Rattle.rx_node.specs.Steps.{is_heard}
use Rattle.rx_node.proofs.KeptKeys.{by_looks, kept_both, kept_key, kept_setup, seat_key}
use Rattle.rx_node.proofs.Steps.TakingSteps.{ack_row, heard_is, same_key, settled_mirrors, taken_ackall}
use Rattle.rx_node.proofs.Steps.TakingSteps.{unheard_mirrors}
use Rattle.rx_node.proofs.SameChannels.{others_then}
use Rattle.rx_node.proofs.node.Node.take_ack.Goals as goal

pub returns-then-not-is_heard-clause-answered : goal.returns-then-not-is_heard-clause-answered
returns-then-not-is_heard-clause-answered g c = λ l d k own.
    c.hear-took.ensures.answered l d k own
    ∙ sym (ack_row (setup_of g.C.Class.class_of c.args.self.now) l k (message_of c.args.head.now c.args.body.now)
    (body_of c.args.body.now) c.requires.acks)

pub returns-then-not-is_heard-clause-steps : goal.returns-then-not-is_heard-clause-steps
returns-then-not-is_heard-clause-steps g c = λ l d k own.
    unheard_mirrors g.C.Class.class_of c.args.self.now c.hear-took.new.self l c.args.key d k c.hear-took.result
    (message_of c.args.head.now c.args.body.now) own c.requires.acks (c.hear-took.ensures.answered l d k own)
    (sym c.is_heard.ensures ∙ c.if-not-is_heard.true) (c.hear-took.ensures.steps l d k own)

pub challenge-requires : goal.challenge-requires
challenge-requires g c =
    kept_key _ _ c.args.key (kept_both _ _ _ c.hear-took.ensures.same c.settle.ensures.same)
    (seat_key c.args.self.now c.args.key c.requires.active.seat c.requires.active.there)

pub returns-in-Ack-clause-answered : goal.returns-in-Ack-clause-answered
returns-in-Ack-clause-answered g c = λ l d k own.
    c.hear-took.ensures.answered l d k own
    ∙ sym (ack_row (setup_of g.C.Class.class_of c.args.self.now) l k (message_of c.args.head.now c.args.body.now)
    (body_of c.args.body.now) c.requires.acks)

pub returns-in-Ack-clause-steps : goal.returns-in-Ack-clause-steps
returns-in-Ack-clause-steps g c = λ l d k own.
    (let class = g.C.Class.class_of in
    let old = c.args.self.now in
    let s : Setup = setup_of class old in
    let m = message_of c.args.head.now c.args.body.now in
    let heard : is_heard c.hear-took.result ≡ true = sym c.is_heard.ensures ∙ c.if-not-is_heard.false in
    let after : Looks = on_call d settled (taken_at s tooks.Heard d m l) in
    let two = settled_mirrors class old c.hear-took.new.self c.settle.new.self l c.args.key d k
    c.hear-took.result m own heard
    (c.hear-took.ensures.steps l d k own) (λ n is at. c.settle.ensures.steps n (channel_of d) is at) in
    by_looks class _ _ _
    (ap (λ (t : Setup). challenged t d after) (kept_setup class old c.settle.new.self
    (kept_both _ _ _ c.hear-took.ensures.same c.settle.ensures.same))
    ∙ ap (λ (b : Body). taken_heard s d b (taken_at s tooks.Heard d m l)) (sym (ap body_of c.in-Ack.is))
    ∙ ap (λ (t : Took). taken_with s t d m l) (sym (heard_is c.hear-took.result heard)))
    (c.challenge.ensures.steps after d two (same_key l after c.args.key (channel_of d) (λ i. l.conns) own.channel)))

pub returns-in-Ack-clause-same : goal.returns-in-Ack-clause-same
returns-in-Ack-clause-same g c =
    kept_both _ _ _ (kept_both _ _ _ c.hear-took.ensures.same c.settle.ensures.same) c.challenge.ensures.same

pub returns-in_default-clause-answered : goal.returns-in_default-clause-answered
returns-in_default-clause-answered g c = λ l d k own.
    c.hear-took.ensures.answered l d k own
    ∙ sym (ack_row (setup_of g.C.Class.class_of c.args.self.now) l k (message_of c.args.head.now c.args.body.now)
    (body_of c.args.body.now) c.requires.acks)

pub returns-in_default-clause-steps : goal.returns-in_default-clause-steps
returns-in_default-clause-steps g c = λ l d k own.
    (let class = g.C.Class.class_of in
    let old = c.args.self.now in
    let s : Setup = setup_of class old in
    let m = message_of c.args.head.now c.args.body.now in
    let heard : is_heard c.hear-took.result ≡ true = sym c.is_heard.ensures ∙ c.if-not-is_heard.false in
    let two = settled_mirrors class old c.hear-took.new.self c.settle.new.self l c.args.key d k
    c.hear-took.result m own heard
    (c.hear-took.ensures.steps l d k own) (λ n is at. c.settle.ensures.steps n (channel_of d) is at) in
    by_looks class _ _ _
    (sym (taken_ackall s d c.args.body.now (taken_at s tooks.Heard d m l) c.requires.acks c.in_default.not-Ack)
    ∙ ap (λ (t : Took). taken_with s t d m l) (sym (heard_is c.hear-took.result heard))) two)

pub returns-in_default-clause-same : goal.returns-in_default-clause-same
returns-in_default-clause-same g c = kept_both _ _ _ c.hear-took.ensures.same c.settle.ensures.same

pub returns-in-Ack-clause-others : goal.returns-in-Ack-clause-others
returns-in-Ack-clause-others g c =
    others_then _ _ _ c.args.key c.hear-took.ensures.others
    (others_then _ _ _ c.args.key c.settle.ensures.others c.challenge.ensures.others)

pub returns-in_default-clause-others : goal.returns-in_default-clause-others
returns-in_default-clause-others g c =
    others_then _ _ _ c.args.key c.hear-took.ensures.others c.settle.ensures.others
