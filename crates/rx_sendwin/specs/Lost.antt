-- Which pieces are taken for lost, by the numbers that a window keeps. Public clauses cite this module.
use Rattle.std.specs.Prelude.{◌≡◌, ◌<◌, ◌≤◌, ◌&&◌, ◌-◌, not, nat_lt, nat_le, slice_index_or, ℕ, suc, Bool, true, false}
use Rattle.std.specs.Prelude.{List, Option, Some, None}
use Rattle.rx_rules.specs.Lost.{order_by, overtakers}
use Rattle.rx_rules.specs.Sent.{count_to}
use Rattle.rx_sendwin.specs.declared.lost.Latest.{Latest}
use Rattle.rx_sendwin.specs.declared.lost.Lost.{Lost}
use Rattle.rx_sendwin.specs.declared.piece.HeldPiece.{HeldPiece}
use Rattle.rx_sendwin.specs.Marks.{is_acked_by}
use Rattle.rx_sendwin.specs.Pieces.{giving_in}

-- which of all givings the last one of the piece at a place was; 0 where it was never given
abbrev pub order_in : List HeldPiece → ℕ → ℕ
order_in hs i = order_by (giving_in hs i)

-- a piece is marked, and was last given behind so many givings
abbrev pub is_marked_past : ℕ → List Bool → (ℕ → ℕ) → ℕ → ℕ → Bool
is_marked_past acked soft order past j =
    slice_index_or soft (j - suc acked) false && nat_lt past (order (j - suc acked))

-- a piece overtakes another
abbrev pub overtakes_by : ℕ → List Bool → (ℕ → ℕ) → ℕ → ℕ → Bool
overtakes_by acked soft order k j = nat_lt k j && is_marked_past acked soft order (order (k - suc acked)) j

-- a piece is overtaken, so many being given
abbrev pub is_overtaken_by : ℕ → List Bool → (ℕ → ℕ) → ℕ → ℕ → Bool
is_overtaken_by acked soft order given k =
    not (is_acked_by acked soft k) && nat_le overtakers (count_to (overtakes_by acked soft order k) given)

-- a piece is late, where so many givings were before the latest that was made as a piece's time was up
abbrev pub is_late_by : ℕ → List Bool → (ℕ → ℕ) → ℕ → ℕ → Bool
is_late_by acked soft order since k = not (is_acked_by acked soft k) && nat_le (order (k - suc acked)) since

-- a piece is on its way
abbrev pub is_under_way_by : ℕ → List Bool → (ℕ → ℕ) → ℕ → ℕ → Bool
is_under_way_by acked soft order since k = not (is_acked_by acked soft k) && nat_lt since (order (k - suc acked))

-- three numbers tell of each other one whether at least one, two or three of those seen are above it
pub record Counts (latest : Latest) (o count : ℕ) : Type 0 where
  pub first : nat_lt o latest.first ≡ nat_le 1 count
  pub second : nat_lt o latest.second ≡ nat_le 2 count
  pub third : nat_lt o latest.third ≡ nat_le 3 count

-- the lowest number above this one up to n that passes a test
pub record IsLowestAt (test : ℕ → Bool) (above n k : ℕ) : Type 0 where
  pub past : above < k
  pub within : k ≤ n
  pub passes : test k ≡ true
  pub before : (j : ℕ) → above < j → j < k → test j ≡ false

-- the same, or none passes
abbrev pub IsLowest : (ℕ → Bool) → ℕ → ℕ → Option ℕ → Type 0
IsLowest test above n None = (j : ℕ) → above < j → j ≤ n → test j ≡ false
IsLowest test above n (Some k) = IsLowestAt test above n k

-- what a window keeps of its lost pieces
pub record AreLost (acked given since : ℕ) (soft : List Bool) (order : ℕ → ℕ) (lost : Lost) : Type 0 where
  pub overtaken : IsLowest (is_overtaken_by acked soft order given) acked given lost.overtaken
  pub late : IsLowest (is_late_by acked soft order since) acked given lost.late
  pub under_way : lost.under_way ≡ count_to (is_under_way_by acked soft order since) given
