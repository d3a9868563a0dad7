-- What a poll may cost. Public clauses cite this module.
use Rattle.std.specs.Prelude.{◌+◌, ◌*◌, ◌^◌, ◌<◌, ℕ, count_by, length}
use Rattle.rx_due.specs.Cost.{AtMost}
use Rattle.rx_rules.specs.Looks.{Looks}
use Rattle.rx_rules.specs.Records.{is_silent}
use Rattle.rx_table.specs.declared.seat.TheConstants.{CHANNELS}

-- how many calls are silent, so that the next poll ends or breaks them
abbrev pub silent_count : Looks → ℕ
silent_count l = count_by (is_silent l.now) l.calls

-- a count of steps grew by at most (x + 1) * (64 * d + 64), where x is how many calls are silent, and d the greatest
-- number with 2 ^ d ≤ 2 * n + 1 for the n channels that are there, or greater than that
abbrev pub AtMostForPoll : Looks → ℕ → ℕ → Type 0
AtMostForPoll l old new =
    (d : ℕ) → 2 * (CHANNELS * length l.conns) + 1 < 2 ^ (d + 1) → AtMost ((silent_count l + 1) * (64 * d + 64)) old new
