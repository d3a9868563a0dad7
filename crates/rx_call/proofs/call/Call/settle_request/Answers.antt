use Rattle.std.proofs.Common.{◌≡◌, ◌∙◌, ◌+◌, ◌-◌, nat_lt, ap, sym, true}
use Rattle.rx_rules.specs.CallLooks.{freed}
use Rattle.rx_pool.proofs.Beside.{holds_right, keeps_right}
use Rattle.rx_recvwin.specs.Window.{packet_slots}
use Rattle.rx_sendwin.specs.Window.{piece_slots}
use Rattle.rx_call.specs.Standing.{EndOfCall, is_client}
use Rattle.rx_call.proofs.Parts.{sent_changed, found_client, cut_some}
use Rattle.rx_call.proofs.call.Call.settle_request.Goals as goal

pub ack_all-requires-clause-holds : goal.ack_all-requires-clause-holds
ack_all-requires-clause-holds c =
    holds_right c.args.pool.now (packet_slots c.self.inside.received) (piece_slots c.self.inside.sent)
    (rw (← c.self.view_is) at c.requires.holds)

pub returns-in-Client-clause-left : goal.returns-in-Client-clause-left
returns-in-Client-clause-left c =
    let client : c.args.self.now.client ≡ true = (
    ap (λ (e : EndOfCall). e.client) (sym c.self.view_is) ∙ ap is_client c.in-Client.is) in
    let holds = (rw (← c.self.view_is) at c.requires.holds) in
    λ k st.
    let here = (rw (← c.self.view_is) at st) in
    let after = (
    sent_changed c.args.pool.now c.ack_all.new.pool _ c.ack_all.new.self k _ holds c.ack_all.ensures.keeps here
    (c.ack_all.ensures.stands k.sent here.sent)) in
    let more = c.beside-before.ensures.answered c.args.pool.now k st in
    let fewer = c.beside.ensures.answered c.ack_all.new.pool _ after in
    cut_some c.saturating_add.result (c.args.common + (c.beside-before.result - c.beside.result))
    (c.args.common + freed true k) c.saturating_add.ensures (λ i. c.args.common + (more i - fewer i))
    ∙ ap (λ b. nat_lt 0 (c.args.common + freed b k)) (sym client)

pub returns-in-Client-clause-stands : goal.returns-in-Client-clause-stands
returns-in-Client-clause-stands c =
    let client : c.args.self.now.client ≡ true = (
    ap (λ (e : EndOfCall). e.client) (sym c.self.view_is) ∙ ap is_client c.in-Client.is) in
    let holds = (rw (← c.self.view_is) at c.requires.holds) in
    λ k st.
    let here = (rw (← c.self.view_is) at st) in
    found_client c.ack_all.new.pool _ k c.args.self.now.client client
    (sent_changed c.args.pool.now c.ack_all.new.pool _ c.ack_all.new.self k _ holds c.ack_all.ensures.keeps here
    (c.ack_all.ensures.stands k.sent here.sent))

pub returns-in-Client-clause-keeps : goal.returns-in-Client-clause-keeps
returns-in-Client-clause-keeps c =
    let holds = (rw (← c.self.view_is) at c.requires.holds) in
    rw (← c.self.view_is) (keeps_right c.args.pool.now c.ack_all.new.pool (packet_slots c.self.inside.received)
    (piece_slots c.self.inside.sent) (piece_slots c.ack_all.new.self) c.ack_all.ensures.keeps holds)
