-- When the connections of a table were used last, by place, as a book has it. No public clause cites this module.
use Rattle.std.specs.Prelude.{◌≡◌, ◌≤◌, ◌<◌, ◌+◌, ◌-◌, ◌*◌, ◌&&◌, if◌then◌else◌, nat_le, is_some, ℕ, Bool, false}
use Rattle.std.specs.Prelude.{List, [], ◌∷◌, length, take, drop, Option, Some, None, option_map, slice_get, slice_set}
use Rattle.std.specs.List.{list_any}
use Rattle.rx_due.specs.Book.{IsNotAfter, moment_of}
use Rattle.rx_model.specs.declared.wire.TheConstants.{IDLE_MS}
use Rattle.rx_table.specs.declared.conn.Conn.{Conn}
use Rattle.rx_table.specs.declared.seat.Seat.{Seat}
use Rattle.rx_table.specs.declared.seat.TheConstants.{CHANNELS}

-- the last use of the connection at a place
abbrev pub use_at : List Conn → ℕ → Option ℕ
use_at cs place = option_map (λ c. c.last_use) (slice_get cs place)

-- a book has room for so many places, and the last use of each connection
pub record AreUses (book : List (Option ℕ)) (cs : List Conn) (room : ℕ) : Type 0 where
  pub places : length book ≡ room
  pub each : (place : ℕ) → moment_of book place ≡ use_at cs place

-- each place that a book has has four seats
abbrev pub AreSeated : List (Option ℕ) → List Seat → Type 0
AreSeated book seats =
    (place moment : ℕ) → moment_of book place ≡ Some moment → CHANNELS * place + CHANNELS ≤ length seats

-- whether a call lives at one of the seats of a place
abbrev pub has_call : List Seat → ℕ → Bool
has_call seats place = list_any (λ seat. is_some seat.live) (take CHANNELS (drop (CHANNELS * place) seats))

-- the place was not used for long, and no call lives there
pub record IsFreeAt (seats : List Seat) (now place since : ℕ) : Type 0 where
  pub long : IDLE_MS ≤ now - since
  pub free : has_call seats place ≡ false

-- such a place is the first of those in a book
pub record IsFirstFree (book : List (Option ℕ)) (seats : List Seat) (now place : ℕ) : Type 0 where
  pub since : ℕ
  pub there : moment_of book place ≡ Some since
  pub free : IsFreeAt seats now place since
  pub first : (q u : ℕ) → moment_of book q ≡ Some u → IsFreeAt seats now q u → IsNotAfter (since, place) (u, q)

-- a book has no such place
abbrev pub NoneIsFree : List (Option ℕ) → List Seat → ℕ → Type 0
NoneIsFree book seats now = (q u : ℕ) → moment_of book q ≡ Some u → IsFreeAt seats now q u → ⊥

-- ---- places aside

-- a book with the moments of places that went aside
abbrev pub with_aside : List (Option ℕ) → List (ℕ × ℕ) → List (Option ℕ)
with_aside book [] = book
with_aside book (pair ∷ pairs) = slice_set (with_aside book pairs) pair.1 (Some pair.0)

-- whether a call lives at these seats of a place that was not used for long
abbrev pub is_held_at : ℕ → Option ℕ → List Seat → Bool
is_held_at now None four = false
is_held_at now (Some since) four = list_any (λ seat. is_some seat.live) four && nat_le IDLE_MS (now - since)

-- how many such places a book has
abbrev pub held_among : ℕ → List (Option ℕ) → List Seat → ℕ
held_among now [] seats = 0
held_among now (m ∷ ms) seats =
    (if is_held_at now m (take CHANNELS seats) then 1 else 0) + held_among now ms (drop CHANNELS seats)

-- each of these places is below a number
abbrev pub AreWithin : ℕ → List (ℕ × ℕ) → Type 0
AreWithin n [] = Unit {0}
AreWithin n (pair ∷ pairs) = (pair.1 < n) × AreWithin n pairs

-- some places of a book at which calls live went aside
pub record AreTaken (now : ℕ) (seats : List Seat) (old new : List (Option ℕ)) (aside : List (ℕ × ℕ)) : Type 0 where
  pub again : with_aside new aside ≡ old
  pub places : length new ≡ length old
  pub within : AreWithin (length old) aside
  pub held : length aside + held_among now new seats ≤ held_among now old seats
