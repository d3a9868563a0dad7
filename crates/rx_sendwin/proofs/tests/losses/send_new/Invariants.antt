use Rattle.std.proofs.Common.{◌≡◌}
use Rattle.rx_sendwin.specs.Window.{piece_slots}
use Rattle.rx_sendwin.proofs.tests.losses.send_new.Given as goal

abbrev pub invariant-loop-count : goal.invariant-loop-count
invariant-loop-count l = piece_slots l.win ≡ piece_slots l.fn.win
