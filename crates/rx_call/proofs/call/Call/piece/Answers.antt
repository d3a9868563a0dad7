use Rattle.rx_pool.proofs.Beside.{holds_right}
use Rattle.rx_recvwin.specs.Window.{packet_slots}
use Rattle.rx_sendwin.specs.Window.{piece_slots}
use Rattle.rx_call.proofs.call.Call.piece.Goals as goal

pub piece-requires-clause-holds : goal.piece-requires-clause-holds
piece-requires-clause-holds c =
    holds_right c.args.pool.now (packet_slots c.self.inside.received) (piece_slots c.self.inside.sent)
    (rw (← c.self.view_is) at c.requires.holds)
