use Rattle.rx_pool.specs.Held.{Holds}
use Rattle.rx_call.specs.Standing.{slots_of}
use Rattle.rx_call_tests.proofs.tests.losses.a_late_piece_goes_again_as_the_window_lets_it.Given as goal

abbrev pub invariant-loop-now : goal.invariant-loop-now
invariant-loop-now g l = Holds l.pool (slots_of l.call)
