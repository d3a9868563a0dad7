-- What a receiving window is, and for what it stands. Public clauses cite this module.
use Rattle.std.specs.Prelude.{◌≡◌, ◌<◌, ◌≤◌, ◌+◌, ◌-◌, ◌==◌, ◌&&◌, ◌||◌, ◌^◌, is_some, nat_lt, nat_le, max, min, set}
use Rattle.std.specs.Prelude.{map}
use Rattle.std.specs.Prelude.{if◌then◌else◌, ℕ, suc, Bool, true, false, List, [], ◌∷◌, ◌++◌, length, take, drop, Option}
use Rattle.std.specs.Prelude.{Some, None}
use Rattle.rx_model.specs.declared.answers.CallRead.{CallRead}
use Rattle.rx_model.specs.declared.answers.CallRead.TheVariants as reads
use Rattle.rx_model.specs.declared.wire.TheConstants.{MIN_WINDOW, MAX_WINDOW}
use Rattle.rx_rules.specs.Received.{Piece, Packet, Received, Arrival, packet_at, greatest, last_seq, front_of}
use Rattle.rx_rules.specs.Received.{end_of, is_done, is_no_seq, payload_of, unread_of, count_above, is_above}
use Rattle.rx_pool.specs.Pool.{Slots}
use Rattle.rx_recvwin.specs.declared.packet.KeptPacket.{KeptPacket}
use Rattle.rx_recvwin.specs.Places.{place_at, leading, count_in, slots_in, seen_at, HasSeqs, HasSizes}

-- the window's width; how many packets are used; how far the next one was read; the places of the packets used+1,
-- used+2, .. ; the seq of the last packet, once it is kept; the greatest seq kept; whether the stream was read to its
-- end; the seq of the latest packet that was kept, came again, lay past the window or had no slot
pub record RecvWindow : Type 0 where
  pub width : ℕ
  pub used : ℕ
  pub offset : ℕ
  pub places : List (Option KeptPacket)
  pub last : Option ℕ
  pub greatest : ℕ
  pub ended : Bool
  pub previous : ℕ

-- the slots that a window holds, in the order of their seqs
abbrev pub packet_slots : RecvWindow → List ℕ
packet_slots w = slots_in w.places

-- what ties a window's numbers to its places, and bounds them
pub record IsTied (width used front held : ℕ) (places : List (Option KeptPacket)) : Type 0 where
  pub least : MIN_WINDOW ≤ width
  pub most : width ≤ MAX_WINDOW
  pub seqs : HasSeqs used places
  pub sizes : HasSizes places
  pub upto : front ≡ used + leading places
  pub count : held ≡ count_in places

-- ---- what a window is, with the bytes of its pool

-- the same window with the packets themselves in its places
pub record Window : Type 0 where
  pub width : ℕ
  pub used : ℕ
  pub offset : ℕ
  pub ahead : List (Option Piece)
  pub last : Option ℕ
  pub greatest : ℕ
  pub ended : Bool
  pub previous : ℕ

-- what a window is, given the bytes of its pool
abbrev pub window_of : Slots → RecvWindow → Window
window_of pool w =
    record {
      width = w.width;
      used = w.used;
      offset = w.offset;
      ahead = map (seen_at pool) w.places;
      last = w.last;
      greatest = w.greatest;
      ended = w.ended;
      previous = w.previous;
    }

-- the first place is freed
abbrev pub after_use : Window → Window
after_use w = record w { used = w.used + 1; offset = 0; ahead = drop 1 w.ahead ++ None ∷ [] }

-- a packet came to its place
abbrev pub after_put : Packet → Window → Window
after_put p w =
    record w {
      ahead = set w.ahead (p.seq - suc w.used) (Some p.piece);
      last = if p.piece.last then Some p.seq else w.last;
      greatest = max w.greatest p.seq;
      previous = p.seq;
    }

-- ---- for what it stands

-- no seq stands twice
abbrev pub IsOnce : List Packet → Type 0
IsOnce [] = Unit {0}
IsOnce (p ∷ ps) = (packet_at ps p.seq ≡ None) × IsOnce ps

-- every packet of the stream was kept and read
pub record IsOver (r : Received) : Type 0 where
  pub last : last_seq r.kept ≡ Some (greatest r.kept)
  pub front : front_of r.kept ≡ greatest r.kept
  pub read : length r.read ≡ end_of r.kept (front_of r.kept)

-- what holds of all that can be received: seqs from 1 on below 2^32-1, none twice, none above the last packet; and the
-- end was read only where nothing was missing
pub record IsReceivable (r : Received) : Type 0 where
  pub fits : greatest r.kept < 2 ^ 32 - 1
  pub zero : packet_at r.kept 0 ≡ None
  pub once : IsOnce r.kept
  pub marked : (k : ℕ) (p : Piece) → packet_at r.kept k ≡ Some p → p.last ≡ true →
      (k ≡ greatest r.kept) × (last_seq r.kept ≡ Some k)
  pub last : (l : ℕ) → last_seq r.kept ≡ Some l → l ≡ greatest r.kept
  pub over : r.ended ≡ true → IsOver r

-- the window has what its `used` leaves, though more of it may be done with
pub record Near (w : Window) (r : Received) : Type 0 where
  pub sound : IsReceivable r
  pub done : (k : ℕ) → k < w.used → is_done r (suc k) ≡ true
  pub some : 0 < w.width
  pub size : length w.ahead ≡ w.width
  pub ahead : (i : ℕ) → place_at w.ahead i ≡ packet_at r.kept (suc (w.used + i))
  pub within : greatest r.kept ≤ w.used + w.width
  pub count : count_in w.ahead ≡ count_above w.used r.kept
  pub offset : end_of r.kept w.used + w.offset ≡ length r.read
  pub short : w.offset ≤ length (payload_of (packet_at r.kept (suc w.used)))
  pub marked : w.last ≡ last_seq r.kept
  pub greatest : w.greatest ≡ greatest r.kept
  pub ended : w.ended ≡ r.ended
  pub previous : w.previous ≡ r.previous

-- nothing more is done with
pub record StandsFor (w : Window) (r : Received) : Type 0 where
  pub near : Near w r
  pub stops : is_done r (suc w.used) ≡ false

-- with the bytes of its pool, a window stands for what was received
abbrev pub StandsReceived : Slots → RecvWindow → Received → Type 0
StandsReceived pool w r = StandsFor (window_of pool w) r

-- ---- a packet comes

-- a packet of these
abbrev pub as_packet : ℕ → List ℕ → Bool → Packet
as_packet seq payload last = record { seq = seq; piece = record { payload = payload; last = last } }

-- whether there is a slot for a packet, where the front is so
abbrev pub slot_behind : Bool → ℕ → ℕ → ℕ → Bool
slot_behind leadless left seq front = (leadless && (seq == front + 1)) || nat_lt 0 left

-- what decides the row of a packet, as the window has it
abbrev pub arrival_at : RecvWindow → Bool → ℕ → Bool → Arrival
arrival_at w slot seq last =
    record {
      is_strange = is_no_seq seq;
      is_repeat = nat_le seq w.used || is_some (place_at w.places (seq - suc w.used));
      is_beyond = nat_lt (w.used + w.width) seq;
      is_clash = is_above w.last seq || (last && nat_lt seq w.greatest);
      has_slot = slot;
    }

-- ---- a read

-- how many bytes a read gave
abbrev pub given_count : CallRead → ℕ
given_count (reads.Got n) = n
given_count reads.End = 0
given_count reads.NotYet = 0

-- whether it told the end
abbrev pub tells_end : CallRead → Bool
tells_end (reads.Got n) = false
tells_end reads.End = true
tells_end reads.NotYet = false

-- these bytes were read
abbrev pub read_more : List ℕ → Received → Received
read_more bytes r = record r { read = r.read ++ bytes }

-- the first n of the unread bytes were given
pub record SomeRead (w : Window) (r : Received) (n : ℕ) (to : List ℕ) : Type 0 where
  pub stands : StandsFor w (read_more (take n to) r)
  pub bytes : take n to ≡ take n (unread_of r)
  pub most : n ≤ length (unread_of r)
  pub fits : n ≤ length to

-- so many bytes of the first packet were given; none only where none is unread
pub record FirstRead (w : Window) (r : Received) (n : ℕ) (to : List ℕ) : Type 0 where
  pub some : SomeRead w r n to
  pub none : n ≡ 0 → unread_of r ≡ []

-- as many of the unread bytes as fit were given
pub record AllRead (w : Window) (r : Received) (room n : ℕ) (to : List ℕ) : Type 0 where
  pub some : SomeRead w r n to
  pub count : n ≡ min room (length (unread_of r))
