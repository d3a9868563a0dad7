use Rattle.std.proofs.Common.{◌∙◌, not, ap, subst, Bool}
use Rattle.rx_model.specs.Body as bodies
use Rattle.rx_packet.specs.Seen.{message_with_head}
use Rattle.rx_rules.specs.Owing.{owed_for}
use Rattle.rx_rules.specs.Received.{arrival_row, arrival_of, has_slot, after_packet}
use Rattle.rx_pool.proofs.Beside.{holds_left, keeps_left}
use Rattle.rx_recvwin.specs.Window.{packet_slots, as_packet, StandsReceived}
use Rattle.rx_sendwin.specs.Window.{piece_slots}
use Rattle.rx_call.specs.Standing.{EndOfCall}
use Rattle.rx_call.proofs.Parts.{received_changed, now_owes, now_heard}
use Rattle.rx_call.proofs.call.Call.keep.Goals as goal

pub keep-took-requires-clause-holds : goal.keep-took-requires-clause-holds
keep-took-requires-clause-holds c =
    holds_left c.args.pool.now (packet_slots c.self.inside.received) (piece_slots c.self.inside.sent)
    (rw (← c.self.view_is) at c.requires.holds)

pub returns-clause-answered : goal.returns-clause-answered
returns-clause-answered c =
    let width = c.self.invariant.2 ∙ ap (λ (e : EndOfCall). e.pace.window) c.self.view_is in
    λ k st.
    let here = (rw (← c.self.view_is) at st) in
    let lead = c.lead.ensures.answered c.args.pool.now k st in
    let last = c.has_flag-last.ensures in
    c.keep-took.ensures.answered k.received here.received
    ∙ (λ i. arrival_row
    (arrival_of (width i) (has_slot (not (lead i)) c.args.left c.args.head.now.seq k.received)
    (as_packet c.args.head.now.seq c.args.payload.now (last i)) k.received))

pub returns-clause-stands : goal.returns-clause-stands
returns-clause-stands c =
    let holds = (rw (← c.self.view_is) at c.requires.holds) in
    let pool = c.keep-took.new.pool in
    let m = message_with_head c.args.head.now (bodies.Chunk c.args.payload.now) in
    rw (← c.self.view_is) (λ k st.
    let prompt = c.recovers.ensures ∙ (λ i. (st.cwnd i).prompt) in
    let hole = c.has_hole.ensures.answered c.args.pool.now k.received st.received in
    let front = c.front.ensures.answered c.args.pool.now k.received st.received in
    let owed = (
    c.owe_for-self-inside.ensures (bodies.Chunk c.args.payload.now)
    ∙ (λ i. owed_for c.keep-took.result c.args.now (prompt i) (hole i) m (front i) (st.owed i))) in
    let kept = (
    subst (λ (b : Bool). StandsReceived pool c.keep-took.new.self
    (after_packet c.keep-took.result (as_packet c.args.head.now.seq c.args.payload.now b) k.received))
    c.has_flag-last.ensures (c.keep-took.ensures.stands k.received st.received)) in
    now_heard pool _ _ c.args.now (now_owes pool _ _ _ _ owed (received_changed c.args.pool.now pool _
    c.keep-took.new.self k _ holds c.keep-took.ensures.keeps st kept)))

pub returns-clause-keeps : goal.returns-clause-keeps
returns-clause-keeps c =
    let holds = (rw (← c.self.view_is) at c.requires.holds) in
    rw (← c.self.view_is) (keeps_left c.args.pool.now c.keep-took.new.pool (packet_slots c.self.inside.received)
    (packet_slots c.keep-took.new.self) (piece_slots c.self.inside.sent) c.keep-took.ensures.keeps holds)
