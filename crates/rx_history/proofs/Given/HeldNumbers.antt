-- How many slots are held beside one of its own, by numbers alone.
use Rattle.std.proofs.Common.{◌≡◌, ◌⊎◌, ◌≤◌, ◌<◌, ◌||◌, ◌+◌, ◌-◌, ℕ, suc, if◌then◌else◌, max}
use Rattle.std.proofs.Common.{nat_lt, nat_le, Bool, true, false, refl}
use Rattle.std.proofs.Common.{arith, inl, inr}
use Rattle.std.proofs.lemmas.Bool.Decides.{nat_tests}
use Rattle.rx_rules.specs.Sent.{opened, pieces_by, room_by}

-- the slots of a call beside its own, by what is done with, the front, the packets held and the pieces held
abbrev pub beside_by : ℕ → ℕ → ℕ → ℕ → ℕ
beside_by used front packets pieces = (packets + pieces) - (if nat_lt used front || nat_lt 0 pieces then 1 else 0)

-- fewer pieces are held
pub fewer-pieces : (used front packets old new : ℕ) → new ≤ old
    → beside_by used front packets new ≤ beside_by used front packets old
fewer-pieces used front packets old new low = grind (arith, nat_tests)

-- one packet more
pub one-more : (used front packets pieces used' front' packets' : ℕ) → packets' ≤ suc packets
    → (used < front → used' < front')
    → beside_by used' front' packets' pieces ≤ suc (beside_by used front packets pieces)
one-more used front packets pieces used' front' packets' low leads = of (nat_lt used front) refl
  where
    of : (b : Bool) → nat_lt used front ≡ b
        → beside_by used' front' packets' pieces ≤ suc (beside_by used front packets pieces)
    of true is = (
        let less : used < front = grind (arith, nat_tests) in
        let more = leads less in
        grind (arith, nat_tests))
    of false is = grind (arith, nat_tests)

-- the next packet, where nothing in front is left and no piece is held
pub the-next : (used front packets used' front' packets' : ℕ) → front ≤ used → packets' ≤ suc packets
    → (front' ≤ used' → packets' ≤ packets)
    → beside_by used' front' packets' 0 ≤ beside_by used front packets 0
the-next used front packets used' front' packets' none low held = of (nat_lt used' front') refl
  where
    of : (b : Bool) → nat_lt used' front' ≡ b → beside_by used' front' packets' 0 ≤ beside_by used front packets 0
    of true is = grind (arith, nat_tests)
    of false is = (
        let all : front' ≤ used' = grind (arith, nat_tests) in
        let same = held all in
        grind (arith, nat_tests))

-- fewer packets
pub fewer-packets : (used front packets pieces used' packets' : ℕ) → packets' ≤ packets
    → (used < front → front ≤ used' → suc packets' ≤ packets)
    → beside_by used' front packets' pieces ≤ beside_by used front packets pieces
fewer-packets used front packets pieces used' packets' low held = of (nat_lt used front) (nat_lt used' front) refl refl
  where
    of : (b d : Bool) → nat_lt used front ≡ b → nat_lt used' front ≡ d
        → beside_by used' front packets' pieces ≤ beside_by used front packets pieces
    of true false is was = (
        let less : used < front = grind (arith, nat_tests) in
        let all : front ≤ used' = grind (arith, nat_tests) in
        let one = held less all in
        grind (arith, nat_tests))
    of true true is was = grind (arith, nat_tests)
    of false d is was = grind (arith, nat_tests)

-- more pieces, the first of them from its own slot
pub more-pieces : (used front packets old new left : ℕ) → old ≤ new
    → new ≤ old + (left + 1 - (if nat_lt used front || nat_lt 0 old then 1 else 0))
    → beside_by used front packets new ≤ beside_by used front packets old + left
more-pieces used front packets old new left grows low = grind (arith, nat_tests)

-- an empty stream that is shut opens a piece
pub first-piece : (used front packets old new : ℕ) → front ≤ used → (new ≤ old) ⊎ (old ≡ 0) × (new ≤ 1)
    → beside_by used front packets new ≤ beside_by used front packets old
first-piece used front packets old new none (inl low) = fewer-pieces used front packets old new low
first-piece used front packets old new none (inr one) = (let is = one.0 in let low = one.1 in grind (arith, nat_tests))

-- ---- pieces

written : (n m total window more acked : ℕ) → total ≡ n + m → m ≤ room_by window more n acked
    → (opened n - acked ≤ opened total - acked) × (opened total - acked ≤ (opened n - acked) + more)
written n m total window more acked is low = (omega arith, omega arith)

-- a write opens at most so many
pub write-pieces : (shut : Bool) (n m total window more acked : ℕ) → shut ≡ false → total ≡ n + m
    → m ≤ room_by window more n acked
    → (pieces_by n shut - acked ≤ pieces_by total shut - acked)
    × (pieces_by total shut - acked ≤ (pieces_by n shut - acked) + more)
write-pieces true n m total window more acked open_ is low = absurd cc
write-pieces false n m total window more acked open_ is low = written n m total window more acked is low

-- a stream that is shut empty has one piece
pub shut-pieces : (shut : Bool) (n acked : ℕ)
    → (pieces_by n true - acked ≤ pieces_by n shut - acked) ⊎ (pieces_by n shut - acked ≡ 0)
    × (pieces_by n true - acked ≤ 1)
shut-pieces true n acked = inl (omega arith)
shut-pieces false n acked = of (nat_le 1 (opened n)) refl
  where
    of : (b : Bool) → nat_le 1 (opened n) ≡ b
        → (max 1 (opened n) - acked ≤ opened n - acked) ⊎ (opened n - acked ≡ 0) × (max 1 (opened n) - acked ≤ 1)
    of true some = inl (let low : 1 ≤ opened n = grind (arith, nat_tests) in omega arith)
    of false none = inr (let low : opened n < 1 = grind (arith, nat_tests) in (omega arith, omega arith))
