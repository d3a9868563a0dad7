use Rattle.rx_pool.specs.Held.{Holds}
use Rattle.rx_recvwin.specs.Window.{packet_slots}
use Rattle.rx_recvwin.proofs.tests.slots_are_for_the_next_packet_before_others.Given as goal

abbrev pub invariant-loop-seq : goal.invariant-loop-seq
invariant-loop-seq g l = Holds l.pool (packet_slots l.win)
