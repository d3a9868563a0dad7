use Rattle.std.proofs.Common.{◌∙◌, ◌&&◌, not, ap, sym, subst}
use Rattle.rx_model.specs.Body as bodies
use Rattle.rx_packet.specs.Seen.{message_with_head}
use Rattle.rx_rules.specs.CallLooks.{CallLooks, found, packet_of, has_lead}
use Rattle.rx_rules.specs.Received.{is_no_seq, arrival_of, has_slot}
use Rattle.rx_rules.specs.Sent.{is_all_given}
use Rattle.rx_call.specs.Standing.{StandsCall, data_row, view_of}
use Rattle.rx_model.specs.declared.pace.Pace.{Pace}
use Rattle.rx_call.proofs.Rows.{or_left, chunk_row, data_taken}
use Rattle.rx_call.proofs.call.Call.take_chunk.Goals as goal

pub returns-clause-answered : goal.returns-clause-answered
returns-clause-answered c =
    let client = c.args.self.now.client in
    let seq = c.args.head.now.seq in
    let payload = c.args.payload.now in
    let p = packet_of (message_with_head c.args.head.now (bodies.Chunk payload)) payload in
    λ k st.
    let plain = sym (c.is_strange_data.ensures.answered c.args.pool.now k st) ∙ c.if-is_strange_data.false in
    let none = or_left (is_no_seq seq) (client && not (is_all_given k.sent)) plain in
    let left = c.settle_request-left.result in
    c.keep.ensures.answered (found client k) (c.settle_request-left.ensures.stands k st)
    ∙ ap (λ (e : Pace). data_row e.window left p (found client k)) c.settle_request-left.ensures.same.pace
    ∙ chunk_row client c.args.self.now.pace.window left c.args.common p k none plain
    (c.settle_request-left.ensures.left k st)

pub returns-clause-stands : goal.returns-clause-stands
returns-clause-stands c =
    let client = c.args.self.now.client in
    let seq = c.args.head.now.seq in
    let payload = c.args.payload.now in
    let p = packet_of (message_with_head c.args.head.now (bodies.Chunk payload)) payload in
    λ k st.
    let plain = sym (c.is_strange_data.ensures.answered c.args.pool.now k st) ∙ c.if-is_strange_data.false in
    let none = or_left (is_no_seq seq) (client && not (is_all_given k.sent)) plain in
    let left = c.settle_request-left.result in
    let f = found client k in
    let there = c.settle_request-left.ensures.stands k st in
    let a = arrival_of c.settle_request-left.new.self.pace.window (has_slot (not (has_lead f)) left p.seq f.received)
    p f.received in
    subst (λ (l : CallLooks). StandsCall c.keep.new.pool c.keep.new.self l)
    (data_taken (view_of c.args.self.now c.args.common c.args.now) c.args.head.now payload k c.keep.result a none
    (c.keep.ensures.answered f there)) (c.keep.ensures.stands f there)
