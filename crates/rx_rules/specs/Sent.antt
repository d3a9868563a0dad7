-- What one end said: the pieces of its stream, which of them were given, and what the other end acknowledged. Public
-- clauses cite this module.
use Rattle.std.specs.Prelude.{◌==◌, ◌&&◌, ◌||◌, ◌+◌, ◌-◌, ◌*◌, ◌/◌, not, if◌then◌else◌, min, max, nat_lt, nat_le}
use Rattle.std.specs.Prelude.{is_some}
use Rattle.std.specs.Prelude.{ℕ, suc, zero, Bool, true, false, List, [], ◌∷◌, ◌++◌, length, take, drop, slice_index_or}
use Rattle.std.specs.Prelude.{Option, Some, None, option_and_then}
use Rattle.rx_model.specs.declared.wire.TheConstants.{PIECE_BYTES, LAST_SEQ, FIRST_PEER_WINDOW, MAX_WINDOW}
use Rattle.rx_rules.specs.Rates.{as_trip}
use Rattle.rx_rules.specs.Received.{Piece, reach}

-- a piece that was given, and when
pub record Giving : Type 0 where
  pub seq : ℕ
  pub moment : ℕ

-- the bytes accepted; whether the stream is shut; the pieces given, the newest first; how many pieces are hard
-- acknowledged; which seqs are soft acknowledged; the peer's window; how many givings there were before the latest that
-- was made as a piece's time was up
pub record Sent : Type 0 where
  pub said : List ℕ
  pub shut : Bool
  pub givings : List Giving
  pub acked : ℕ
  pub soft : ℕ → Bool
  pub peer_window : ℕ
  pub since : ℕ

-- nothing said yet
abbrev pub nothing_sent : Sent
nothing_sent =
    record {
      said = [];
      shut = false;
      givings = [];
      acked = 0;
      soft = λ k. false;
      peer_window = FIRST_PEER_WINDOW;
      since = 0;
    }

-- ---- pieces

-- how many pieces so many bytes open, the filling one included
abbrev pub opened : ℕ → ℕ
opened n = (n + (PIECE_BYTES - 1)) / PIECE_BYTES

-- how many pieces so many bytes make: a stream that is shut empty has one
abbrev pub pieces_by : ℕ → Bool → ℕ
pieces_by n shut = if shut then max 1 (opened n) else opened n

-- how many of them count: before the stream is shut a piece counts once a further byte was accepted
abbrev pub counting_by : ℕ → Bool → ℕ
counting_by n shut = if shut then max 1 (opened n) else (n - 1) / PIECE_BYTES

-- how many pieces there are
abbrev pub pieces_of : Sent → ℕ
pieces_of s = pieces_by (length s.said) s.shut

-- how many count
abbrev pub counting_of : Sent → ℕ
counting_of s = counting_by (length s.said) s.shut

-- the bytes of piece k, from 1 on
abbrev pub payload_at : List ℕ → ℕ → List ℕ
payload_at said zero = []
payload_at said (suc k) = take PIECE_BYTES (drop (PIECE_BYTES * k) said)

-- piece k, from 1 on
abbrev pub piece_at : Sent → ℕ → Piece
piece_at s k = record { payload = payload_at s.said k; last = s.shut && (k == pieces_of s) }

-- how many pieces are held: all that aren't hard acknowledged
abbrev pub held_pieces : Sent → ℕ
held_pieces s = pieces_of s - s.acked

-- ---- how many bytes a write may accept

-- how many pieces may be opened: so many more, as many as the window lets be held, and none past the last seq
abbrev pub openable : ℕ → ℕ → ℕ → ℕ → ℕ
openable window more open_ acked = min (min (window - (open_ - acked)) more) (LAST_SEQ - open_)

-- the bytes left in the filling piece, and those of the pieces that may be opened
abbrev pub room_by : ℕ → ℕ → ℕ → ℕ → ℕ
room_by window more n acked = PIECE_BYTES * (opened n + openable window more (opened n) acked) - n

-- the same of a stream
abbrev pub room_of : ℕ → ℕ → Sent → ℕ
room_of window more s = room_by window more (length s.said) s.acked

-- ---- what was given

-- the greatest seq among givings
abbrev pub greatest_given : List Giving → ℕ
greatest_given [] = 0
greatest_given (g ∷ gs) = max g.seq (greatest_given gs)

-- how many pieces were given: they are given in order
abbrev pub given_of : Sent → ℕ
given_of s = greatest_given s.givings

-- the greatest number of 64 bits that another follows
abbrev pub LAST_ORDER : ℕ
LAST_ORDER = 18446744073709551614

-- how many givings there were: a count that stands still there
abbrev pub orders_of : List Giving → ℕ
orders_of gs = min (length gs) LAST_ORDER

-- when a piece was last given, whether it was given before, and which of all givings that was, from 1 on
pub record LastGiving : Type 0 where
  pub moment : ℕ
  pub again : Bool
  pub order : ℕ

-- of piece k, where it was given
abbrev pub last_giving : List Giving → ℕ → Option LastGiving
last_giving [] k = None
last_giving (g ∷ gs) k =
    if g.seq == k
    then Some (record { moment = g.moment; again = is_some (last_giving gs k); order = suc (orders_of gs) })
    else last_giving gs k

-- it is shut, and each piece was given
abbrev pub is_all_given : Sent → Bool
is_all_given s = s.shut && (given_of s == pieces_of s)

-- ---- what is acknowledged

-- hard or soft
abbrev pub is_acked : Sent → ℕ → Bool
is_acked s k = nat_le k s.acked || s.soft k

-- it is shut, and each piece is hard acknowledged
abbrev pub is_all_acked : Sent → Bool
is_all_acked s = s.shut && (s.acked == pieces_of s)

-- how many of 1 to n pass a test
abbrev pub count_to : (ℕ → Bool) → ℕ → ℕ
count_to test zero = 0
count_to test (suc n) = if test (suc n) then suc (count_to test n) else count_to test n

-- how many pieces are in flight: given, and not acknowledged
abbrev pub in_flight : Sent → ℕ
in_flight s = count_to (λ k. not (is_acked s k)) (given_of s)

-- the lowest piece that isn't acknowledged
abbrev pub lowest_of : Sent → ℕ
lowest_of s = suc (reach (is_acked s) (given_of s))

-- it is shut, and each piece was given and is acknowledged
abbrev pub is_all_known : Sent → Bool
is_all_known s = is_all_given s && (in_flight s == 0)

-- the peer's window lets piece k go
abbrev pub is_let : Sent → ℕ → Bool
is_let s k = nat_le k (s.acked + s.peer_window)

-- ---- an ACK comes

-- a window of 0 is read as 1, and one above the greatest as the greatest
abbrev pub with_window : Option ℕ → ℕ → ℕ
with_window None before = before
with_window (Some w) before = max 1 (min w MAX_WINDOW)

-- whether a mark stands for a seq, where the first mark stands for this one
abbrev pub is_marked : ℕ → List Bool → ℕ → Bool
is_marked first marks k = nat_le first k && slice_index_or marks (k - first) false

-- whether some mark stands for a piece that was never given
abbrev pub marks_past : List Bool → ℕ → ℕ → Bool
marks_past [] k given = false
marks_past (mark ∷ marks) k given = (mark && nat_lt given k) || marks_past marks (suc k) given

-- an ACK makes no sense where it speaks of a piece that was never given
abbrev pub is_strange_ack : ℕ → List Bool → Sent → Bool
is_strange_ack first marks s =
    (first == 0) || (nat_lt (given_of s) (first - 1) || marks_past marks first (given_of s))

-- ---- steps

-- these bytes were accepted
abbrev pub after_write : List ℕ → Sent → Sent
after_write bytes s = record s { said = s.said ++ bytes }

-- nothing more will be said
abbrev pub after_shut : Sent → Sent
after_shut s = record s { shut = true }

-- piece k was given
abbrev pub after_giving : ℕ → ℕ → Sent → Sent
after_giving now k s = record s { givings = record { seq = k; moment = now } ∷ s.givings }

-- the time of the piece that is given next is up, or it isn't
abbrev pub after_time : Bool → Sent → Sent
after_time up s = record s { since = (if up then orders_of s.givings else s.since) }

-- of an ACK below what is hard acknowledged marks and window are ignored
abbrev pub after_ack : ℕ → List Bool → Option ℕ → Sent → Sent
after_ack first marks window s =
    if nat_lt (first - 1) s.acked then s
    else record s { acked = first - 1; soft = is_marked first marks; peer_window = with_window window s.peer_window }

-- all pieces are hard acknowledged
abbrev pub after_all : Sent → Sent
after_all s = record s { acked = pieces_of s }

-- ---- what an ACK newly acknowledges

-- how many pieces, and the round trip that it measures
pub record Newly : Type 0 where
  pub count : ℕ
  pub sample : Option ℕ

-- a piece that is acknowledged behind it and wasn't before
abbrev pub is_new : Sent → Sent → ℕ → Bool
is_new before after k = not (is_acked before k) && is_acked after k

-- the highest of 1 to n that passes a test
abbrev pub highest_to : (ℕ → Bool) → ℕ → Option ℕ
highest_to test zero = None
highest_to test (suc n) = if test (suc n) then Some (suc n) else highest_to test n

-- the round trip of a piece that was given once
abbrev pub round_trip : ℕ → LastGiving → Option ℕ
round_trip now g = if g.again then None else Some (as_trip (now - g.moment))

-- the pieces that are new, and the round trip of the highest of them
abbrev pub newly_between : ℕ → Sent → Sent → Newly
newly_between now before after =
    record {
      count = count_to (is_new before after) (given_of before);
      sample =
          option_and_then (λ k. option_and_then (round_trip now) (last_giving before.givings k))
          (highest_to (is_new before after) (given_of before));
    }

-- what an ACK newly acknowledges; the window that it tells doesn't count here
abbrev pub newly_of : ℕ → ℕ → List Bool → Sent → Newly
newly_of now first marks s = newly_between now s (after_ack first marks None s)
