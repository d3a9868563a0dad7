use Rattle.std.proofs.Common.{refl, arith}
use Rattle.rx_table.proofs.SeatLaws.{within_seats, seat_is, seat-set}
use Rattle.rx_table.proofs.table.Table.seat_mut.Goals as goal

pub index_mut-requires : goal.index_mut-requires
index_mut-requires c =
    let within = within_seats _ _ _ _ _ c.self.view_is c.self.invariant.0.seated c.requires in
    omega (arith, within)

pub returns : goal.returns
returns c = (
  (refl, λ w. seat-set _ _ _ _ w _ c.self.view_is),
  record {
    writes_back = tt;
    value = seat_is _ _ _ _ _ _ c.self.view_is c.self.invariant.0.seated c.requires c.index_mut.ensures.value;
  },
)
