use Rattle.std.proofs.Common.{◌≡◌}
use Rattle.rx_rules.specs.Received.{Received}
use Rattle.rx_pool.specs.Held.{Keeps}
use Rattle.rx_recvwin.specs.Places.{count_in}
use Rattle.rx_recvwin.specs.Window.{Near, window_of, packet_slots}
use Rattle.rx_recvwin.proofs.window.RecvWin.settle.Given as goal

abbrev pub invariant-loop-self : goal.invariant-loop-self
invariant-loop-self l = record {
  near : (r : Received) → Near (window_of l.fn.pool l.fn.self) r → Near (window_of l.pool l.self) r;
  keeps : Keeps l.fn.pool l.pool (packet_slots l.fn.self) (packet_slots l.self);
  width : l.self.width ≡ l.fn.self.width;
}

abbrev pub decreases-loop-self : goal.decreases-loop-self
decreases-loop-self l = count_in l.self.places
