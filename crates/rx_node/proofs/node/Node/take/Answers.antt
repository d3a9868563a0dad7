use Rattle.std.proofs.Common.{◌∙◌, sym, ap, rules, w32, ℤ}
use Rattle.std.proofs.lemmas.Int.{to_z-of_z}
use mir.Val.{SFits}
use Rattle.rx_model.specs.declared.names.CallName.{CallName}
use Rattle.rx_model.specs.Body.{Body}
use Rattle.rx_model.specs.Names.{channel_of}
use Rattle.rx_packet.specs.Seen.{body_of, message_of}
use Rattle.rx_packet.specs.declared.body.Body.{Body as PacketBody}
use Rattle.rx_rules.specs.After.{taken_stopped, taken_with}
use Rattle.rx_rules.specs.Life.{after_code}
use Rattle.rx_rules.specs.Looks.{latest_name, on_life}
use Rattle.rx_node.specs.Node.{setup_of}
use Rattle.rx_node.proofs.KeptKeys.{by_looks, seat_key}
use Rattle.rx_node.proofs.Steps.TakingSteps.{abort_is, busy_is}
use Rattle.rx_node.proofs.SameChannels.{places_same}
use Rattle.std.proofs.lemmas.Bool.{false≢true}
use Rattle.rx_node.specs.Steps.{is_response}
use Rattle.rx_node.proofs.node.Node.take.Goals as goal

pub returns-in-Chunk-clause-answered : goal.returns-in-Chunk-clause-answered
returns-in-Chunk-clause-answered g c = λ l k own. c.take_chunk.ensures.answered l c.args.c.now k own

pub returns-in-Chunk-clause-steps : goal.returns-in-Chunk-clause-steps
returns-in-Chunk-clause-steps g c = λ l k own. c.take_chunk.ensures.steps l c.args.c.now k own

pub returns-in-Busy-clause-steps : goal.returns-in-Busy-clause-steps
returns-in-Busy-clause-steps g c = λ l k own.
    (let class = g.C.Class.class_of in
    let d = c.args.c.now in
    let m = message_of c.args.head.now c.args.body.now in
    by_looks class _ _ _
    (busy_is (setup_of class c.args.self.now) c.hear.result d m l k (ap body_of c.in-Busy.is)
    (c.hear.ensures.answered l d k own)) (c.hear.ensures.steps l d k own))

pub returns-in-Abort-clause-steps : goal.returns-in-Abort-clause-steps
returns-in-Abort-clause-steps g c = λ l k own.
    (let class = g.C.Class.class_of in
    let d = c.args.c.now in
    let fits : SFits w32 c.in-Abort.code = search rules in
    by_looks class _ _ _
    (ap (λ (z : ℤ). on_life (latest_name l (channel_of d)) (after_code z) l) (to_z-of_z w32 c.in-Abort.code fits)
    ∙ ap (λ (x : CallName). on_life x (after_code c.in-Abort.code) l) own.latest
    ∙ abort_is d c.in-Abort.code l k (own.mirrors.numbered d) own.call
    ∙ ap (λ (b : Body). taken_stopped d b l) (sym (ap body_of c.in-Abort.is)))
    (c.reach.ensures.steps l (channel_of d) own.mirrors own.channel))

pub returns-in-Challenge-clause-steps : goal.returns-in-Challenge-clause-steps
returns-in-Challenge-clause-steps g c = λ l k own.
    by_looks g.C.Class.class_of _ _ _
    (ap (λ (b : PacketBody). taken_with (setup_of g.C.Class.class_of c.args.self.now)
    c.take_challenge.result c.args.c.now
    (message_of c.args.head.now b) l) (sym c.in-Challenge.is)) (c.take_challenge.ensures.steps l k own)

pub returns-in-Response-clause-steps : goal.returns-in-Response-clause-steps
returns-in-Response-clause-steps g c = λ l k own.
    by_looks g.C.Class.class_of _ _ _
    (ap (λ (b : PacketBody). taken_with (setup_of g.C.Class.class_of c.args.self.now)
    c.take_response.result c.args.c.now
    (message_of c.args.head.now b) l) (sym c.in-Response.is)) (c.take_response.ensures.steps l k own)

pub returns-in-Ack-clause-answered : goal.returns-in-Ack-clause-answered
returns-in-Ack-clause-answered g c = λ l k own. c.take_ack.ensures.answered l c.args.c.now k own

pub returns-in-Ack-clause-steps : goal.returns-in-Ack-clause-steps
returns-in-Ack-clause-steps g c = λ l k own. c.take_ack.ensures.steps l c.args.c.now k own

pub reach-requires : goal.reach-requires
reach-requires g c = seat_key c.args.self.now c.args.key c.requires.active.seat c.requires.active.there

pub returns-in-Chunk-clause-places : goal.returns-in-Chunk-clause-places
returns-in-Chunk-clause-places g c =
    places_same _ _ c.args.key c.take_chunk.ensures.others

pub returns-in-Busy-clause-places : goal.returns-in-Busy-clause-places
returns-in-Busy-clause-places g c =
    places_same _ _ c.args.key c.hear.ensures.others

pub returns-in-Ack-clause-places : goal.returns-in-Ack-clause-places
returns-in-Ack-clause-places g c =
    places_same _ _ c.args.key c.take_ack.ensures.others

pub returns-in-Abort-clause-places : goal.returns-in-Abort-clause-places
returns-in-Abort-clause-places g c =
    places_same _ _ c.args.key c.reach.ensures.others

pub returns-in-Challenge-clause-places : goal.returns-in-Challenge-clause-places
returns-in-Challenge-clause-places g c =
    places_same _ _ c.args.key c.take_challenge.ensures.others

pub returns-in-Response-clause-others : goal.returns-in-Response-clause-others
returns-in-Response-clause-others g c =
    λ none. absurd (false≢true (sym none ∙ ap (λ (b : PacketBody). is_response (body_of b)) c.in-Response.is))
