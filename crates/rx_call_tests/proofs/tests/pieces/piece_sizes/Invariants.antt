use Rattle.rx_pool.specs.Held.{Holds}
use Rattle.rx_call.specs.Standing.{slots_of}
use Rattle.rx_call_tests.proofs.tests.pieces.piece_sizes.Given as goal

abbrev pub invariant-loop-giving : goal.invariant-loop-giving
invariant-loop-giving g l = Holds l.pool (slots_of l.call)
