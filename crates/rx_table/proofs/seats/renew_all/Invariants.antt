use Rattle.std.proofs.Common.{◌≡◌, take, replicate}
use Rattle.rx_table.specs.Records.{fresh_seat}
use Rattle.rx_table.proofs.seats.renew_all.Given as goal

abbrev pub invariant-loop-seat : goal.invariant-loop-seat
invariant-loop-seat l = take l.seat-index l.seats ≡ replicate l.seat-index (fresh_seat 0)
