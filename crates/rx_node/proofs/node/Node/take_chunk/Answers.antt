use Rattle.std.proofs.Common.{◌∙◌, sym}
use Rattle.rx_packet.specs.Seen.{body_of, message_of}
use Rattle.rx_node.specs.Node.{setup_of}
use Rattle.rx_node.proofs.KeptKeys.{kept_both, kept_key, seat_key}
use Rattle.rx_node.proofs.Steps.TakingSteps.{data_row, judged_mirrors, unjudged_mirrors}
use Rattle.rx_node.proofs.SameChannels.{others_then}
use Rattle.rx_node.proofs.node.Node.take_chunk.Goals as goal

pub challenge-requires : goal.challenge-requires
challenge-requires g c =
    kept_key _ _ c.args.key c.hear-took.ensures.same
    (seat_key c.args.self.now c.args.key c.requires.active.seat c.requires.active.there)

pub returns-then-is_judged-clause-answered : goal.returns-then-is_judged-clause-answered
returns-then-is_judged-clause-answered g c = λ l d k own.
    c.hear-took.ensures.answered l d k own
    ∙ sym (data_row (setup_of g.C.Class.class_of c.args.self.now) l k (message_of c.args.head.now c.args.body.now)
    (body_of c.args.body.now) c.requires.chunk)

pub returns-then-is_judged-clause-steps : goal.returns-then-is_judged-clause-steps
returns-then-is_judged-clause-steps g c = λ l d k own.
    judged_mirrors g.C.Class.class_of c.args.self.now c.hear-took.new.self c.challenge.new.self l c.args.key d k
    c.hear-took.result (message_of c.args.head.now c.args.body.now) own (sym c.is_judged.ensures ∙ c.if-is_judged.true)
    c.hear-took.ensures.same (c.hear-took.ensures.steps l d k own)
    (λ n m at. c.challenge.ensures.steps n d m at)

pub returns-then-is_judged-clause-same : goal.returns-then-is_judged-clause-same
returns-then-is_judged-clause-same g c = kept_both _ _ _ c.hear-took.ensures.same c.challenge.ensures.same

pub returns-else-is_judged-clause-answered : goal.returns-else-is_judged-clause-answered
returns-else-is_judged-clause-answered g c = λ l d k own.
    c.hear-took.ensures.answered l d k own
    ∙ sym (data_row (setup_of g.C.Class.class_of c.args.self.now) l k (message_of c.args.head.now c.args.body.now)
    (body_of c.args.body.now) c.requires.chunk)

pub returns-else-is_judged-clause-steps : goal.returns-else-is_judged-clause-steps
returns-else-is_judged-clause-steps g c = λ l d k own.
    unjudged_mirrors g.C.Class.class_of c.args.self.now c.hear-took.new.self l c.args.key d k
    c.hear-took.result (message_of c.args.head.now c.args.body.now) own c.requires.chunk
    (c.hear-took.ensures.answered l d k own) (sym c.is_judged.ensures ∙ c.if-is_judged.false)
    (c.hear-took.ensures.steps l d k own)

pub returns-then-is_judged-clause-others : goal.returns-then-is_judged-clause-others
returns-then-is_judged-clause-others g c =
    others_then _ _ _ c.args.key c.hear-took.ensures.others c.challenge.ensures.others
