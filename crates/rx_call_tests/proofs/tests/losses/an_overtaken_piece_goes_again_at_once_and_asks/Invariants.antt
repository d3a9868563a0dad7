use Rattle.rx_pool.specs.Held.{Holds}
use Rattle.rx_call.specs.Standing.{slots_of}
use Rattle.rx_call_tests.proofs.tests.losses.an_overtaken_piece_goes_again_at_once_and_asks.Given as goal

abbrev pub invariant-loop-now : goal.invariant-loop-now
invariant-loop-now g l = Holds l.pool (slots_of l.call)

abbrev pub invariant-loop : goal.invariant-loop
invariant-loop g l = Holds l.pool (slots_of l.call)

abbrev pub invariant-loop-giving : goal.invariant-loop-giving
invariant-loop-giving g l = Holds l.pool (slots_of l.call)
