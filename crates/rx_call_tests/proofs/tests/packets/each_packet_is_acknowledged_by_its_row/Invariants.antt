use Rattle.rx_pool.specs.Held.{Holds}
use Rattle.rx_call.specs.Standing.{slots_of}
use Rattle.rx_call_tests.proofs.tests.packets.each_packet_is_acknowledged_by_its_row.Given as goal

abbrev pub invariant-loop-seq : goal.invariant-loop-seq
invariant-loop-seq g l = Holds l.pool (slots_of l.call)

abbrev pub invariant-loop-seq-2 : goal.invariant-loop-seq-2
invariant-loop-seq-2 g l = Holds l.pool (slots_of l.call)
