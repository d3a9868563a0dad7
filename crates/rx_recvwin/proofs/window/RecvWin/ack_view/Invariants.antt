use Rattle.std.proofs.Common.{◌≡◌}
use Rattle.arrayvec.specs.ArrayVec.{array_vec_len}
use Rattle.rx_rules.specs.Received.{Received, marks_from, used_of}
use Rattle.rx_pool.specs.Pool.{Slots}
use Rattle.rx_recvwin.specs.Window.{StandsFor, window_of}
use Rattle.rx_recvwin.proofs.window.RecvWin.ack_view.Given as goal

abbrev pub invariant-loop-i : goal.invariant-loop-i
invariant-loop-i l = record {
  len : array_vec_len l.marks ≡ l.i;
  so_far : (pool : Slots) (r : Received) → StandsFor (window_of pool l.self) r → l.marks.items
      ≡ marks_from r.kept (used_of r) l.i;
}
