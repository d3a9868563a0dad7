use Rattle.std.proofs.Common.{arith}
use Rattle.rx_table.proofs.SeatLaws.{within_seats, seat_is}
use Rattle.rx_table.proofs.table.Table.seat.Goals as goal

pub index-requires : goal.index-requires
index-requires c =
    let within = within_seats _ _ _ _ _ c.self.view_is c.self.invariant.0.seated c.requires in
    omega (arith, within)

pub returns : goal.returns
returns c =
    seat_is _ _ _ _ _ _ c.self.view_is c.self.invariant.0.seated c.requires c.index.ensures
