-- Which pieces a prompt node takes for lost before their time is up (RFC 6675, section 5; RFC 9002, section 6.1.1).
-- Public clauses cite this module.
use Rattle.std.specs.Prelude.{◌==◌, ◌&&◌, not, if◌then◌else◌, nat_lt, nat_le, ℕ, suc, Bool, false, Option, Some, None}
use Rattle.rx_rules.specs.Rates.{Cwnd}
use Rattle.rx_rules.specs.Received.{reach}
use Rattle.rx_rules.specs.Sent.{Sent, LastGiving, last_giving, given_of, is_acked, count_to, lowest_of}

-- the lowest of 1 to n that passes a test
abbrev pub lowest_to : (ℕ → Bool) → ℕ → Option ℕ
lowest_to test n =
    if nat_lt (reach (λ k. not (test k)) n) n then Some (suc (reach (λ k. not (test k)) n)) else None

-- which of all givings a piece's last one was, from 1 on; 0 where it was never given
abbrev pub order_by : Option LastGiving → ℕ
order_by None = 0
order_by (Some g) = g.order

-- of piece k
abbrev pub order_of : Sent → ℕ → ℕ
order_of s k = order_by (last_giving s.givings k)

-- ---- overtaken

-- so many pieces that came take one behind which they were given for lost
abbrev pub overtakers : ℕ
overtakers = 3

-- piece j overtakes piece k: it stands behind it in the stream, its last giving came behind that of k, and it is marked
abbrev pub overtakes : Sent → ℕ → ℕ → Bool
overtakes s k j = nat_lt k j && (s.soft j && nat_lt (order_of s k) (order_of s j))

-- piece k isn't acknowledged, and enough others overtook it
abbrev pub is_overtaken : Sent → ℕ → Bool
is_overtaken s k = not (is_acked s k) && nat_le overtakers (count_to (overtakes s k) (given_of s))

-- the lowest that is overtaken
abbrev pub overtaken_of : Sent → Option ℕ
overtaken_of s = lowest_to (is_overtaken s) (given_of s)

-- ---- late

-- piece k isn't acknowledged, and was last given before the latest giving that was made as a piece's time was up
abbrev pub is_late : Sent → ℕ → Bool
is_late s k = not (is_acked s k) && nat_le (order_of s k) s.since

-- the lowest that is late
abbrev pub late_of : Sent → Option ℕ
late_of s = lowest_to (is_late s) (given_of s)

-- how many pieces are on their way: given, not acknowledged and not late
abbrev pub under_way : Sent → ℕ
under_way s = count_to (λ k. not (is_acked s k) && nat_lt s.since (order_of s k)) (given_of s)

-- ---- lost

-- the first of these two
abbrev pub first_lost : Option ℕ → Option ℕ → Option ℕ
first_lost (Some k) late = Some k
first_lost None late = late

-- the piece that a prompt node gives again at once: the lowest that is overtaken, or else, as far as its window lets
-- it, the lowest that is late
abbrev pub lost_of : Cwnd → Sent → Option ℕ
lost_of c s =
    if c.prompt then first_lost (overtaken_of s) (if nat_lt (under_way s) c.window then late_of s else None) else None

-- whether it is this piece
abbrev pub is_piece : Option ℕ → ℕ → Bool
is_piece None k = false
is_piece (Some j) k = j == k

-- piece k is given again at once
abbrev pub is_lost : Cwnd → Sent → ℕ → Bool
is_lost c s k = is_piece (lost_of c s) k

-- it was given once
abbrev pub is_once : Option LastGiving → Bool
is_once None = false
is_once (Some g) = not g.again

-- giving it again closes the window by half: it is the first of its window that was overtaken, the lowest that isn't
-- acknowledged, and was given once
abbrev pub halves : Cwnd → Sent → ℕ → Bool
halves c s k = c.prompt && (is_overtaken s k && ((k == lowest_of s) && is_once (last_giving s.givings k)))
