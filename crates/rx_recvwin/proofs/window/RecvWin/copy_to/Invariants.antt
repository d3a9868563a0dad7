use Rattle.std.proofs.Common.{◌≡◌, ◌≤◌, ◌-◌, length, drop}
use Rattle.rx_rules.specs.Received.{Received}
use Rattle.rx_pool.specs.Held.{Keeps}
use Rattle.rx_recvwin.specs.Window.{StandsFor, SomeRead, window_of, packet_slots}
use Rattle.rx_recvwin.proofs.window.RecvWin.copy_to.Given as goal

abbrev pub invariant-loop-at : goal.invariant-loop-at
invariant-loop-at l = record {
  within : l.at ≤ length l.to;
  so_far : (r : Received) → StandsFor (window_of l.fn.pool l.fn.self) r →
      SomeRead (window_of l.pool l.self) r l.at l.to;
  keeps : Keeps l.fn.pool l.pool (packet_slots l.fn.self) (packet_slots l.self);
  width : l.self.width ≡ l.fn.self.width;
  rest : drop l.at l.to ≡ drop l.at l.fn.to;
  none : l.at ≡ 0 → l.self ≡ l.fn.self;
}

abbrev pub decreases-loop-at : goal.decreases-loop-at
decreases-loop-at l = length l.to - l.at
