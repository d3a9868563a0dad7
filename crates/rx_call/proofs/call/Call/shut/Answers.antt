use Rattle.rx_pool.proofs.Beside.{holds_right, keeps_right}
use Rattle.rx_recvwin.specs.Window.{packet_slots}
use Rattle.rx_sendwin.specs.Window.{piece_slots}
use Rattle.rx_call.proofs.Parts.{sent_changed}
use Rattle.rx_call.proofs.call.Call.shut.Goals as goal

pub shut-requires-clause-holds : goal.shut-requires-clause-holds
shut-requires-clause-holds c =
    holds_right c.args.pool.now (packet_slots c.self.inside.received) (piece_slots c.self.inside.sent)
    (rw (← c.self.view_is) at c.requires.holds)

pub returns-clause-stands : goal.returns-clause-stands
returns-clause-stands c =
    let holds = (rw (← c.self.view_is) at c.requires.holds) in
    rw (← c.self.view_is) (λ k st. sent_changed c.args.pool.now c.shut.new.pool _ c.shut.new.self k _ holds
    c.shut.ensures.keeps st (c.shut.ensures.stands k.sent st.sent))

pub returns-clause-keeps : goal.returns-clause-keeps
returns-clause-keeps c =
    let holds = (rw (← c.self.view_is) at c.requires.holds) in
    rw (← c.self.view_is) (keeps_right c.args.pool.now c.shut.new.pool (packet_slots c.self.inside.received)
    (piece_slots c.self.inside.sent) (piece_slots c.shut.new.self) c.shut.ensures.keeps holds)
