-- Which pieces are acknowledged, by the numbers that a window keeps. Public clauses cite this module.
use Rattle.std.specs.Prelude.{◌==◌, ◌&&◌, ◌||◌, ◌-◌, not, if◌then◌else◌, nat_lt, nat_le, slice_index_or, ℕ, suc, Bool}
use Rattle.std.specs.Prelude.{false}
use Rattle.std.specs.Prelude.{List, [], ◌∷◌, Option, option_and_then}
use Rattle.rx_rules.specs.Sent.{Giving, count_to, highest_to, last_giving, round_trip, marks_past}

-- a piece is acknowledged where so many are hard acknowledged, and these marks stand for those behind them
abbrev pub is_acked_by : ℕ → List Bool → ℕ → Bool
is_acked_by acked soft k = nat_le k acked || slice_index_or soft (k - suc acked) false

-- how many of 1 to n aren't
abbrev pub flight_by : (ℕ → Bool) → ℕ → ℕ
flight_by known n = count_to (λ k. not (known k)) n

-- a piece is acknowledged behind an ACK and wasn't before
abbrev pub is_new_by : (ℕ → Bool) → (ℕ → Bool) → ℕ → Bool
is_new_by before after k = not (before k) && after k

-- how many of 1 to n are new
abbrev pub newly_by : (ℕ → Bool) → (ℕ → Bool) → ℕ → ℕ
newly_by before after n = count_to (is_new_by before after) n

-- the highest of them
abbrev pub highest_by : (ℕ → Bool) → (ℕ → Bool) → ℕ → Option ℕ
highest_by before after n = highest_to (is_new_by before after) n

-- the round trip of a piece that was given once
abbrev pub trip_at : ℕ → List Giving → Option ℕ → Option ℕ
trip_at now givings top = option_and_then (λ k. option_and_then (round_trip now) (last_giving givings k)) top

-- an ACK makes sense where it speaks of no piece that was never given, so many being given
abbrev pub is_valid_ack : ℕ → ℕ → List Bool → Bool
is_valid_ack given first marks = not ((first == 0) || (nat_lt given (first - 1) || marks_past marks first given))

-- how many marks from the first on are set
abbrev pub leading_marks : List Bool → ℕ
leading_marks [] = 0
leading_marks (m ∷ ms) = if m then suc (leading_marks ms) else 0
