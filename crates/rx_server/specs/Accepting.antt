-- What it may cost to find the call that is given to a handler next. Public clauses cite this module.
use Rattle.std.specs.Prelude.{◌≡◌, ◌<◌, ◌+◌, ◌-◌, ◌*◌, ◌^◌, ℕ, List, Option, length}
use Rattle.rx_due.specs.Book.{entries_of}
use Rattle.rx_due.specs.Cost.{AtMost}
use Rattle.rx_table.specs.declared.seat.TheConstants.{CHANNELS}
use Rattle.rx_server.specs.Server.{ServerState}

-- how many channels are ready
abbrev pub ready_count : ServerState → ℕ
ready_count sv = entries_of sv.firsts.ready

-- a count of steps grew by at most (x + 1) * (32 * d + 32), where x is how many channels are ready no longer, and d the
-- greatest number with 2 ^ d ≤ 2 * n + 1 for the n channels that are there, or greater than that
abbrev pub AtMostForAccept : ServerState → ServerState → ℕ → ℕ → Type 0
AtMostForAccept old new before after =
    (d : ℕ) → 2 * (CHANNELS * length old.node.table.conns) + 1 < 2 ^ (d + 1)
    → AtMost ((ready_count old - ready_count new + 1) * (32 * d + 32)) before after

-- so many keys left a book, and it was paid for each of them, and so many steps more
pub record Paid (more : ℕ) (was is : List (Option ℕ)) (before after : ℕ) : Type 0 where
  pub held : ℕ
  pub fewer : entries_of is + held ≡ entries_of was
  pub paid : (d : ℕ) → 2 * entries_of was + 1 < 2 ^ (d + 1) → AtMost (held * (8 * d + 9) + more) before after
