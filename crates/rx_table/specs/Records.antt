-- What a contract sees of a table: the record of each connection by its place. Public clauses cite this module.
use Rattle.std.specs.Prelude.{◌≡◌, ◌≤◌, ◌<◌, ◌+◌, ◌-◌, ◌/◌, ◌%◌, ◌^◌, ◌&&◌, not, if◌then◌else◌, nat_le, is_some}
use Rattle.std.specs.Prelude.{ℕ, zero, suc, Bool, count_by, false, List, [], ◌∷◌, map, set, replicate, position}
use Rattle.std.specs.Prelude.{slice_get}
use Rattle.std.specs.Prelude.{Option, Some, None, option_and_then}
use Rattle.std.specs.List.{list_any}
use Rattle.rx_model.specs.declared.wire.TheConstants.{IDLE_MS}
use Rattle.rx_model.specs.Names.{Connection, same_connection}
use Rattle.rx_table.specs.declared.seat.Seat.{Seat}
use Rattle.rx_table.specs.declared.seat.TheConstants.{CHANNELS}

-- a connection: its name; the nonce of its challenges; the serial of the latest datagram given on it, 0 before the
-- first; the moment of its last use; whether its client is proved; the seats of its channels
pub record ConnRecord : Type 0 where
  pub connection : Connection
  pub nonce : ℕ
  pub serial : ℕ
  pub last_use : ℕ
  pub proved : Bool
  pub seats : List Seat

-- how many connections there is room for, and those that are there, by place
pub record Records : Type 0 where
  pub room : ℕ
  pub conns : List ConnRecord

-- ---- look-ups

-- the names of the connections, by place
abbrev pub names : Records → List Connection
names t = map (λ r. r.connection) t.conns

-- the place of a connection
abbrev pub place_of : Records → Connection → Option ℕ
place_of t x = position (λ y. same_connection y x) (names t)

-- the record at a place
abbrev pub record_at : Records → ℕ → Option ConnRecord
record_at t place = slice_get t.conns place

-- no connection stands in two places
abbrev pub IsDistinct : List Connection → Type 0
IsDistinct xs = (p q : ℕ) (x : Connection) → slice_get xs p ≡ Some x → slice_get xs q ≡ Some x → p ≡ q

-- the seat of a key, which is four times a place and the channel
abbrev pub seat_at : Records → ℕ → Option Seat
seat_at t key = option_and_then (λ r. slice_get r.seats (key % CHANNELS)) (record_at t (key / CHANNELS))

-- ---- changes of one place

-- the n-th of a list changes
abbrev pub changed_at : {X : Type 0} → ℕ → (X → X) → List X → List X
changed_at n change [] = []
changed_at zero change (x ∷ xs) = change x ∷ xs
changed_at (suc n) change (x ∷ xs) = x ∷ changed_at n change xs

-- the record at a place changes
abbrev pub on_place : ℕ → (ConnRecord → ConnRecord) → Records → Records
on_place place change t = record t { conns = changed_at place change t.conns }

-- the seat of a key changes
abbrev pub with_seat : Records → ℕ → Seat → Records
with_seat t key seat =
    on_place (key / CHANNELS) (λ r. record r { seats = set r.seats (key % CHANNELS) seat }) t

-- ---- connections

-- a channel whose latest call has this number, and that owes nothing
abbrev pub fresh_seat : ℕ → Seat
fresh_seat number =
    record {
      number = number;
      live = None;
      «end» = None;
      owed_abort = None;
      owed_busy = None;
      owed_ackall = false;
      owed_challenge = false;
      owed_response = None;
    }

-- those of a connection that is entered
abbrev pub fresh_seats : List Seat
fresh_seats = replicate CHANNELS (fresh_seat 0)

-- a connection that is entered
abbrev pub fresh_record : Connection → ℕ → ℕ → ConnRecord
fresh_record x nonce now =
    record {
      connection = x;
      nonce = nonce;
      serial = 0;
      last_use = now;
      proved = false;
      seats = fresh_seats;
    }

-- the serial after one: 0 follows the greatest
abbrev pub next_serial : ℕ → ℕ
next_serial serial = (serial + 1) % 2 ^ 32

-- ---- idle connections

-- no call of it lives, and it wasn't used for long
abbrev pub is_idle : ℕ → ConnRecord → Bool
is_idle now r = not (list_any (λ seat. is_some seat.live) r.seats) && nat_le IDLE_MS (now - r.last_use)

-- a call of it lives, and it wasn't used for long
abbrev pub is_held : ℕ → ConnRecord → Bool
is_held now r = list_any (λ seat. is_some seat.live) r.seats && nat_le IDLE_MS (now - r.last_use)

-- how many such connections are there
abbrev pub held_count : ℕ → Records → ℕ
held_count now t = count_by (is_held now) t.conns

-- the last use of the record at a place, where it is idle
abbrev pub idle_since : ℕ → Records → ℕ → Option ℕ
idle_since now t place =
    option_and_then (λ r. if is_idle now r then Some r.last_use else None) (record_at t place)

-- the record at a place is idle; no idle one was used earlier, and none of a lower place as early
pub record IsLongestIdle (now : ℕ) (t : Records) (place : ℕ) : Type 0 where
  pub since : ℕ
  pub idle : idle_since now t place ≡ Some since
  pub earliest : (q u : ℕ) → idle_since now t q ≡ Some u → since ≤ u
  pub lowest : (q u : ℕ) → idle_since now t q ≡ Some u → q < place → since < u
