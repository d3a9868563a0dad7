use Rattle.rx_pool.proofs.Beside.{holds_left, holds_right, keeps_left, keeps_right}
use Rattle.rx_pool.proofs.Holding.{keeps_then}
use Rattle.std.proofs.Common.{◌++◌}
use Rattle.rx_recvwin.specs.Window.{packet_slots}
use Rattle.rx_sendwin.specs.Window.{piece_slots}
use Rattle.rx_call.proofs.call.Call.clear.Goals as goal

pub drop_all-requires : goal.drop_all-requires
drop_all-requires c =
    holds_left c.args.pool.now (packet_slots c.self.inside.received) (piece_slots c.self.inside.sent)
    (rw (← c.self.view_is) at c.requires)

pub drop_all-requires-2 : goal.drop_all-requires-2
drop_all-requires-2 c =
    let holds = (rw (← c.self.view_is) at c.requires) in
    let first = (
    keeps_left c.args.pool.now c.drop_all.new.pool (packet_slots c.self.inside.received)
    (packet_slots c.drop_all.new.self) (piece_slots c.self.inside.sent) c.drop_all.ensures.keeps holds) in
    holds_right c.drop_all.new.pool (packet_slots c.drop_all.new.self) (piece_slots c.self.inside.sent) first.holds

pub returns-clause-keeps : goal.returns-clause-keeps
returns-clause-keeps c =
    let holds = (rw (← c.self.view_is) at c.requires) in
    let packets = packet_slots c.self.inside.received in
    let pieces = piece_slots c.self.inside.sent in
    let fewer = packet_slots c.drop_all.new.self in
    let first = (
    keeps_left c.args.pool.now c.drop_all.new.pool packets fewer pieces c.drop_all.ensures.keeps holds) in
    let next = (
    keeps_right c.drop_all.new.pool c.drop_all-2.new.pool fewer pieces (piece_slots c.drop_all-2.new.self)
    c.drop_all-2.ensures.keeps first.holds) in
    rw (← c.self.view_is) (keeps_then c.args.pool.now c.drop_all.new.pool c.drop_all-2.new.pool (packets ++ pieces)
    (fewer ++ pieces) (fewer ++ piece_slots c.drop_all-2.new.self) first next)
