use Rattle.std.proofs.Common.{◌∙◌, sym, take, arith}
use Rattle.rx_rules.specs.Owing.{owed_for_done}
use Rattle.rx_rules.specs.Received.{after_read}
use Rattle.rx_pool.proofs.Beside.{holds_left, keeps_left}
use Rattle.rx_recvwin.specs.Window.{packet_slots, given_count, tells_end}
use Rattle.rx_sendwin.specs.Window.{piece_slots}
use Rattle.rx_call.proofs.Parts.{received_changed, now_owes}
use Rattle.rx_call.proofs.Rising.{owed_raised, owed_same}
use Rattle.rx_call.proofs.call.Call.read.Goals as goal

pub read-answer-requires-clause-holds : goal.read-answer-requires-clause-holds
read-answer-requires-clause-holds c =
    holds_left c.args.pool.now (packet_slots c.self.inside.received) (piece_slots c.self.inside.sent)
    (rw (← c.self.view_is) at c.requires.holds)

pub returns-then-held-before-clause-stands : goal.returns-then-held-before-clause-stands
returns-then-held-before-clause-stands c =
    let holds = (rw (← c.self.view_is) at c.requires.holds) in
    let pool = c.read-answer.new.pool in
    let end_ = tells_end c.read-answer.result in
    let bytes = take (given_count c.read-answer.result) c.read-answer.new.to in
    rw (← c.self.view_is) (λ k st.
    let now = c.read-answer.ensures.stands k.received st.received in
    let before = c.held-before.ensures.answered c.args.pool.now k.received st.received in
    let after = c.held.ensures.answered pool (after_read end_ bytes k.received) now in
    let less = c.if-held-before.true in
    let prompt = c.recovers.ensures ∙ (λ i. (st.cwnd i).prompt) in
    let owed = (
    c.owe_for_done-self-inside.ensures ∙ (λ i. owed_for_done c.args.now (prompt i) (st.owed i))
    ∙ sym (owed_raised c.args.now k.cwnd.prompt end_ bytes k.received k.owed_ack
    (omega (arith, before, after, less)))) in
    now_owes pool _ _ _ _ owed (received_changed c.args.pool.now pool _ c.read-answer.new.self k _ holds
    c.read-answer.ensures.keeps st now))

pub returns-then-held-before-clause-keeps : goal.returns-then-held-before-clause-keeps
returns-then-held-before-clause-keeps c =
    let holds = (rw (← c.self.view_is) at c.requires.holds) in
    rw (← c.self.view_is) (keeps_left c.args.pool.now c.read-answer.new.pool (packet_slots c.self.inside.received)
    (packet_slots c.read-answer.new.self) (piece_slots c.self.inside.sent) c.read-answer.ensures.keeps holds)

pub returns-else-held-before-clause-stands : goal.returns-else-held-before-clause-stands
returns-else-held-before-clause-stands c =
    let holds = (rw (← c.self.view_is) at c.requires.holds) in
    let pool = c.read-answer.new.pool in
    let end_ = tells_end c.read-answer.result in
    let bytes = take (given_count c.read-answer.result) c.read-answer.new.to in
    rw (← c.self.view_is) (λ k st.
    let now = c.read-answer.ensures.stands k.received st.received in
    let before = c.held-before.ensures.answered c.args.pool.now k.received st.received in
    let after = c.held.ensures.answered pool (after_read end_ bytes k.received) now in
    let most = c.if-held-before.false in
    let owed = (
    st.owed ∙ sym (owed_same c.args.now k.cwnd.prompt end_ bytes k.received k.owed_ack
    (omega (arith, before, after, most)))) in
    now_owes pool _ _ _ _ owed (received_changed c.args.pool.now pool _ c.read-answer.new.self k _ holds
    c.read-answer.ensures.keeps st now))

pub returns-else-held-before-clause-keeps : goal.returns-else-held-before-clause-keeps
returns-else-held-before-clause-keeps c =
    let holds = (rw (← c.self.view_is) at c.requires.holds) in
    rw (← c.self.view_is) (keeps_left c.args.pool.now c.read-answer.new.pool (packet_slots c.self.inside.received)
    (packet_slots c.read-answer.new.self) (piece_slots c.self.inside.sent) c.read-answer.ensures.keeps holds)
