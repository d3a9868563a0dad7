-- What a table is once a seat that it lent comes back. Public clauses cite this module.
use Rattle.std.specs.Prelude.{ℕ}
use Rattle.std.specs.Borrow.{Lends, MutBor, Fml}
use Rattle.rx_table.specs.declared.seat.Seat.{Seat}
use Rattle.rx_table.specs.contracts.seat.Seat.{the_row as seat_row}
use Rattle.rx_table.specs.contracts.table.Table.{the_row}
use Rattle.rx_table.specs.Records.{Records, with_seat}

-- the table ends with what is left in the seat
abbrev pub LendsSeat : MutBor Records → ℕ → MutBor Seat → Fml
LendsSeat t key r = Lends the_row seat_row t r (with_seat t.now key)
