use Rattle.std.proofs.Common.{◌≡◌, ◌≤◌, ◌+◌, ◌-◌, take, length}
use Rattle.rx_rules.specs.Sent.{Sent, after_write, opened}
use Rattle.rx_pool.specs.Held.{Keeps}
use Rattle.rx_sendwin.specs.Window.{StandsSent, piece_slots, SameButBytes}
use Rattle.rx_sendwin.proofs.window.SendWin.write.Given as goal

abbrev pub invariant-loop-at : goal.invariant-loop-at
invariant-loop-at l = record {
  within : l.at ≤ l.count;
  total : l.self.total ≡ l.fn.self.total + l.at;
  stands : (s : Sent) → StandsSent l.fn.pool l.fn.self s → StandsSent l.pool l.self (after_write (take l.at l.bytes) s);
  keeps : Keeps l.fn.pool l.pool (piece_slots l.fn.self) (piece_slots l.self);
  held : l.self.acked + length (piece_slots l.self) ≡ opened l.self.total;
  same : SameButBytes l.fn.self l.self;
}

abbrev pub decreases-loop-at : goal.decreases-loop-at
decreases-loop-at l = l.count - l.at
