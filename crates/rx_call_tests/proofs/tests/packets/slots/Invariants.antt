use Rattle.std.proofs.Common.{◌++◌}
use Rattle.rx_pool.specs.Held.{Holds}
use Rattle.rx_call.specs.Standing.{slots_of}
use Rattle.rx_call_tests.proofs.tests.packets.slots.Given as goal

abbrev pub invariant-loop-to_first : goal.invariant-loop-to_first
invariant-loop-to_first g l = Holds l.pool (slots_of l.first ++ slots_of l.second)
