use Rattle.std.proofs.Common.{◌≡◌, ◌∙◌, sym, ap, Some, None, take}
use Rattle.rx_class.specs.Writes.{WritesFront}
use Rattle.rx_model.specs.declared.answers.Took.{Took}
use Rattle.rx_model.specs.declared.answers.Took.TheVariants as tooks
use Rattle.rx_model.specs.Body as bodies
use Rattle.rx_model.specs.Names.{channel_of}
use Rattle.rx_packet.specs.Seen.{message_with_head}
use Rattle.rx_rules.specs.After.{taken_with}
use Rattle.rx_node.specs.Node.{setup_of}
use Rattle.rx_node.proofs.KeptKeys.{by_looks, kept_both, kept_key, seat_key}
use Rattle.rx_node.proofs.Steps.TakingSteps.{answered_mirrors, challenge_is, responds_none, responds_some}
use Rattle.rx_node.proofs.SameChannels.{others_then, same_itself}
use Rattle.rx_node.proofs.node.Node.take_challenge.Goals as goal

pub returns-in_default-clause-answered : goal.returns-in_default-clause-answered
returns-in_default-clause-answered g c = λ l k own.
    (let asked = c.args.asked.now in
    let none : (g.C.Class.class_of c.args.self.now.secret).respond c.args.c.now asked ≡ None =
    rw (← c.self.view_is)
    (responds_none _ c.respond.result (λ bytes n. WritesFront bytes _ c.respond.new.to n) c.respond.ensures.written
    c.in_default.is) in
    challenge_is (setup_of g.C.Class.class_of c.args.self.now) l c.args.c.now k
    (message_with_head c.args.head.now (bodies.Challenge asked)) asked None own.call none)

pub owe_response-requires-clause-key : goal.owe_response-requires-clause-key
owe_response-requires-clause-key g c =
    kept_key _ _ c.args.key c.hear-took.ensures.same
    (seat_key c.args.self.now c.args.key c.requires.seat c.requires.there)

pub returns-clause-answered : goal.returns-clause-answered
returns-clause-answered g c = λ l k own.
    (let asked = c.args.asked.now in
    let some : (g.C.Class.class_of c.args.self.now.secret).respond c.args.c.now asked
    ≡ Some (take c.in-Some.count c.respond.new.to) =
    rw (← c.self.view_is)
    (responds_some _ c.respond.result c.in-Some.count _ c.respond.new.to c.respond.ensures.written
    c.respond.ensures.none
    c.in-Some.is) in
    c.hear-took.ensures.answered l c.args.c.now k own
    ∙ challenge_is (setup_of g.C.Class.class_of c.args.self.now) l c.args.c.now k
    (message_with_head c.args.head.now (bodies.Challenge asked)) asked _ own.call some)

pub returns-clause-steps : goal.returns-clause-steps
returns-clause-steps g c = λ l k own.
    (let class = g.C.Class.class_of in
    let asked = c.args.asked.now in
    let d = c.args.c.now in
    let m = message_with_head c.args.head.now (bodies.Challenge asked) in
    let some : (class c.args.self.now.secret).respond d asked ≡ Some (take c.in-Some.count c.respond.new.to) =
    rw (← c.self.view_is)
    (responds_some _ c.respond.result c.in-Some.count _ c.respond.new.to c.respond.ensures.written
    c.respond.ensures.none
    c.in-Some.is) in
    let heard : c.hear-took.result ≡ tooks.Heard = c.hear-took.ensures.answered l d k own in
    by_looks class _ _ _ (ap (λ (t : Took). taken_with (setup_of class c.args.self.now) t d m l) (sym heard))
    (answered_mirrors class c.args.self.now c.hear-took.new.self c.owe_response.new.self l c.args.key d k
    c.hear-took.result m asked (take c.in-Some.count c.respond.new.to) own heard some
    (c.hear-took.ensures.steps l d k own)
    (λ n is at. c.owe_response.ensures.steps n (channel_of d) is at)))

pub returns-clause-same : goal.returns-clause-same
returns-clause-same g c = kept_both _ _ _ c.hear-took.ensures.same c.owe_response.ensures.same

pub returns-in_default-clause-others : goal.returns-in_default-clause-others
returns-in_default-clause-others g c =
    λ q apart. same_itself _ q

pub returns-clause-others : goal.returns-clause-others
returns-clause-others g c =
    others_then _ _ _ c.args.key c.hear-took.ensures.others c.owe_response.ensures.others
