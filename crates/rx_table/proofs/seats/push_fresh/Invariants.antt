use Rattle.std.proofs.Common.{◌≡◌, ◌++◌, replicate}
use Rattle.rx_table.specs.Records.{fresh_seat}
use Rattle.rx_table.proofs.seats.push_fresh.Given as goal

abbrev pub invariant-loop : goal.invariant-loop
invariant-loop l = record {
  items : l.seats.items ≡ l.initial.seats.items ++ replicate l.counter (fresh_seat 0);
  capacity : l.seats.cap ≡ l.initial.seats.cap;
}
