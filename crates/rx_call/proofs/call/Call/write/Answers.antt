use Rattle.rx_pool.proofs.Beside.{holds_right, keeps_right}
use Rattle.rx_recvwin.specs.Window.{packet_slots}
use Rattle.rx_sendwin.specs.Window.{piece_slots}
use Rattle.rx_call.proofs.Parts.{sent_changed}
use Rattle.rx_call.proofs.call.Call.write.Goals as goal

pub write-requires-clause-holds : goal.write-requires-clause-holds
write-requires-clause-holds c =
    holds_right c.args.pool.now (packet_slots c.self.inside.received) (piece_slots c.self.inside.sent)
    (rw (← c.self.view_is) at c.requires.holds)

pub returns-then-lead-clause-stands : goal.returns-then-lead-clause-stands
returns-then-lead-clause-stands c =
    let holds = (rw (← c.self.view_is) at c.requires.holds) in
    rw (← c.self.view_is) (λ k st. sent_changed c.args.pool.now c.write.new.pool _ c.write.new.self k _ holds
    c.write.ensures.keeps st (c.write.ensures.stands k.sent st.sent))

pub returns-then-lead-clause-keeps : goal.returns-then-lead-clause-keeps
returns-then-lead-clause-keeps c =
    let holds = (rw (← c.self.view_is) at c.requires.holds) in
    rw (← c.self.view_is) (keeps_right c.args.pool.now c.write.new.pool (packet_slots c.self.inside.received)
    (piece_slots c.self.inside.sent) (piece_slots c.write.new.self) c.write.ensures.keeps holds)

pub write-requires-2-clause-holds : goal.write-requires-2-clause-holds
write-requires-2-clause-holds c =
    holds_right c.args.pool.now (packet_slots c.self.inside.received) (piece_slots c.self.inside.sent)
    (rw (← c.self.view_is) at c.requires.holds)

pub returns-clause-stands : goal.returns-clause-stands
returns-clause-stands c =
    let holds = (rw (← c.self.view_is) at c.requires.holds) in
    rw (← c.self.view_is) (λ k st. sent_changed c.args.pool.now c.write-2.new.pool _ c.write-2.new.self k _ holds
    c.write-2.ensures.keeps st (c.write-2.ensures.stands k.sent st.sent))

pub returns-clause-keeps : goal.returns-clause-keeps
returns-clause-keeps c =
    let holds = (rw (← c.self.view_is) at c.requires.holds) in
    rw (← c.self.view_is) (keeps_right c.args.pool.now c.write-2.new.pool (packet_slots c.self.inside.received)
    (piece_slots c.self.inside.sent) (piece_slots c.write-2.new.self) c.write-2.ensures.keeps holds)
