use Rattle.std.proofs.Common.{◌∙◌, ap, sym, not}
use Rattle.rx_pool.proofs.Beside.{holds_right, keeps_right}
use Rattle.rx_recvwin.specs.Window.{packet_slots}
use Rattle.rx_sendwin.specs.Window.{piece_slots}
use Rattle.rx_call.proofs.Parts.{sent_changed, now_heard, heard_one}
use Rattle.rx_call.proofs.call.Call.take_ack_all.Goals as goal

pub ack_all-requires-clause-holds : goal.ack_all-requires-clause-holds
ack_all-requires-clause-holds c =
    holds_right c.args.pool.now (packet_slots c.self.inside.received) (piece_slots c.self.inside.sent)
    (rw (← c.self.view_is) at c.requires.holds)

pub returns-clause-stands : goal.returns-clause-stands
returns-clause-stands c =
    let holds = (rw (← c.self.view_is) at c.requires.holds) in
    let all = c.if-not-all_sent.false in
    rw (← c.self.view_is) (λ k st. heard_one c.ack_all.new.pool _ k _ _
    (ap not (sym (c.all_sent.ensures.answered c.args.pool.now k.sent st.sent) ∙ all))
    (now_heard c.ack_all.new.pool _ _ c.args.now
    (sent_changed c.args.pool.now c.ack_all.new.pool _ c.ack_all.new.self k _
    holds c.ack_all.ensures.keeps st (c.ack_all.ensures.stands k.sent st.sent))))

pub returns-clause-keeps : goal.returns-clause-keeps
returns-clause-keeps c =
    let holds = (rw (← c.self.view_is) at c.requires.holds) in
    rw (← c.self.view_is) (keeps_right c.args.pool.now c.ack_all.new.pool (packet_slots c.self.inside.received)
    (piece_slots c.self.inside.sent) (piece_slots c.ack_all.new.self) c.ack_all.ensures.keeps holds)
