use Rattle.rx_pool.specs.Held.{Holds}
use Rattle.rx_recvwin.specs.Window.{packet_slots}
use Rattle.rx_recvwin.proofs.tests.an_empty_last_packet_is_used_at_the_end.Given as goal

abbrev pub invariant-loop-seq : goal.invariant-loop-seq
invariant-loop-seq g l = Holds l.pool (packet_slots l.win)

abbrev pub invariant-loop-seq-2 : goal.invariant-loop-seq-2
invariant-loop-seq-2 g l = Holds l.pool (packet_slots l.win)
