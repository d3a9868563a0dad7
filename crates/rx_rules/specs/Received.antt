-- What one end received of the other's stream: the packets that were kept, and the bytes that were read. Public clauses
-- cite this module.
use Rattle.std.specs.Prelude.{◌==◌, ◌&&◌, ◌||◌, ◌+◌, ◌-◌, if◌then◌else◌, min, max, nat_lt, nat_le, is_some, ℕ, suc}
use Rattle.std.specs.Prelude.{zero, Bool, true, false, List, [], ◌∷◌, ◌++◌, length, take, drop, Option, Some, None}
use Rattle.rx_model.specs.declared.answers.CallRead.{CallRead}
use Rattle.rx_model.specs.declared.answers.CallRead.TheVariants as reads
use Rattle.rx_model.specs.declared.answers.Took.{Took}
use Rattle.rx_model.specs.declared.wire.TheConstants.{LAST_SEQ}
use Rattle.rx_model.specs.declared.answers.Took.TheVariants as tooks

-- a part of a stream, and whether it is the last
pub record Piece : Type 0 where
  pub payload : List ℕ
  pub last : Bool

-- a piece that came, with its place in the stream, from 1 on
pub record Packet : Type 0 where
  pub seq : ℕ
  pub piece : Piece

-- the packets kept, the newest first; the bytes that reads gave; whether a read answered End; the seq of the latest
-- packet that was kept, came again, lay past the window or had no slot
pub record Received : Type 0 where
  pub kept : List Packet
  pub read : List ℕ
  pub ended : Bool
  pub previous : ℕ

-- nothing came yet
abbrev pub nothing_received : Received
nothing_received = record { kept = []; read = []; ended = false; previous = 0 }

-- ---- the front, and what is done with

-- the kept piece with a seq
abbrev pub packet_at : List Packet → ℕ → Option Piece
packet_at [] k = None
packet_at (p ∷ ps) k = if p.seq == k then Some p.piece else packet_at ps k

-- its bytes; none where there is no such piece
abbrev pub payload_of : Option Piece → List ℕ
payload_of None = []
payload_of (Some p) = p.payload

-- the greatest seq kept, or 0
abbrev pub greatest : List Packet → ℕ
greatest [] = 0
greatest (p ∷ ps) = max p.seq (greatest ps)

-- the seq of the last packet, once it is kept
abbrev pub last_seq : List Packet → Option ℕ
last_seq [] = None
last_seq (p ∷ ps) = if p.piece.last then Some p.seq else last_seq ps

-- the greatest k up to n such that each of 1 to k passes
abbrev pub reach : (ℕ → Bool) → ℕ → ℕ
reach test zero = zero
reach test (suc n) = if (reach test n == n) && test (suc n) then suc n else reach test n

-- the greatest k such that 1 to k are all kept
abbrev pub front_of : List Packet → ℕ
front_of kept = reach (λ k. is_some (packet_at kept k)) (greatest kept)

-- a packet above the front is kept, so that the next one fills a hole
abbrev pub has_hole : Received → Bool
has_hole r = nat_lt (front_of r.kept) (greatest r.kept)

-- the payloads of 1 to k joined
abbrev pub bytes_to : List Packet → ℕ → List ℕ
bytes_to kept zero = []
bytes_to kept (suc k) = bytes_to kept k ++ payload_of (packet_at kept (suc k))

-- the bytes that stand without a gap from the first on
abbrev pub heard_of : List Packet → List ℕ
heard_of kept = bytes_to kept (front_of kept)

-- where packet k ends in the stream
abbrev pub end_of : List Packet → ℕ → ℕ
end_of kept zero = 0
end_of kept (suc k) = end_of kept k + length (payload_of (packet_at kept (suc k)))

-- whether a piece is done with: it was read whole, or it is the last and the end was read
abbrev pub is_done_by : Bool → ℕ → ℕ → Option Piece → Bool
is_done_by ended end read None = false
is_done_by ended end read (Some p) = if p.last then ended else nat_le end read

-- packet k is done with: the last one once the stream was read to its end, any other once all bytes up to its end were
-- read
abbrev pub is_done : Received → ℕ → Bool
is_done r k = is_done_by r.ended (end_of r.kept k) (length r.read) (packet_at r.kept k)

-- how many packets are done with
abbrev pub used_of : Received → ℕ
used_of r = reach (is_done r) (front_of r.kept)

-- how many packets are kept and not done with
abbrev pub count_above : ℕ → List Packet → ℕ
count_above used [] = 0
count_above used (p ∷ ps) = if nat_lt used p.seq then suc (count_above used ps) else count_above used ps

-- whether the kept packets above a seq are there, from the next one on, up to the greatest: the marks of an ACK
abbrev pub marks_from : List Packet → ℕ → ℕ → List Bool
marks_from kept used zero = []
marks_from kept used (suc n) = marks_from kept used n ++ is_some (packet_at kept (used + suc n)) ∷ []

-- the marks of an ACK
abbrev pub marks_of : Received → List Bool
marks_of r = marks_from r.kept (used_of r) (greatest r.kept - used_of r)

-- ---- a packet comes

-- the seq lies above the last packet
abbrev pub is_above : Option ℕ → ℕ → Bool
is_above None seq = false
is_above (Some last) seq = nat_lt last seq

-- no packet has this seq
abbrev pub is_no_seq : ℕ → Bool
is_no_seq seq = (seq == 0) || nat_lt LAST_SEQ seq

-- what decides the row of a data packet on a live call
pub record Arrival : Type 0 where
  pub is_strange : Bool
  pub is_repeat : Bool
  pub is_beyond : Bool
  pub is_clash : Bool
  pub has_slot : Bool

-- the first row that holds
abbrev pub arrival_row : Arrival → Took
arrival_row a =
    if a.is_strange then tooks.Strange
    else if a.is_repeat then tooks.Repeat
    else if a.is_beyond then tooks.Beyond
    else if a.is_clash then tooks.Clash
    else if a.has_slot then tooks.Kept
    else tooks.NoSlot

-- the next packet of a call that holds no lead always has a slot; any other has one where some are left beside
abbrev pub has_slot : Bool → ℕ → ℕ → Received → Bool
has_slot leadless left seq r = (leadless && (seq == front_of r.kept + 1)) || nat_lt 0 left

-- a packet that comes to a window of so many, where there is a slot for it or none
abbrev pub arrival_of : ℕ → Bool → Packet → Received → Arrival
arrival_of window slot p r =
    record {
      is_strange = is_no_seq p.seq;
      is_repeat = nat_le p.seq (used_of r) || is_some (packet_at r.kept p.seq);
      is_beyond = nat_lt (used_of r + window) p.seq;
      is_clash = is_above (last_seq r.kept) p.seq || (p.piece.last && nat_lt p.seq (greatest r.kept));
      has_slot = slot;
    }

-- it is kept where the answer says so
abbrev pub with_packet : Took → Packet → List Packet → List Packet
with_packet tooks.Kept p ps = p ∷ ps
with_packet _ p ps = ps

-- it is the latest where it is no clash
abbrev pub with_previous : Took → ℕ → ℕ → ℕ
with_previous tooks.Kept seq before = seq
with_previous tooks.Repeat seq before = seq
with_previous tooks.Beyond seq before = seq
with_previous tooks.NoSlot seq before = seq
with_previous _ seq before = before

-- a packet was judged
abbrev pub after_packet : Took → Packet → Received → Received
after_packet got p r =
    record r { kept = with_packet got p r.kept; previous = with_previous got p.seq r.previous }

-- ---- a read

-- the bytes that no read gave yet
abbrev pub unread_of : Received → List ℕ
unread_of r = drop (length r.read) (heard_of r.kept)

-- there is a last packet, at most the front
abbrev pub is_within : Option ℕ → ℕ → Bool
is_within None front = false
is_within (Some last) front = nat_le last front

-- the last packet stands without a gap too
abbrev pub is_complete : Received → Bool
is_complete r = is_within (last_seq r.kept) (front_of r.kept)

-- as many of these bytes as fit, else the end or not yet
abbrev pub read_from : ℕ → List ℕ → Bool → CallRead × List ℕ
read_from max [] true = (reads.End, [])
read_from max [] false = (reads.NotYet, [])
read_from max (x ∷ xs) complete = (reads.Got (min max (length (x ∷ xs))), take max (x ∷ xs))

-- what a read of at most so many bytes answers, and the bytes that it gives
abbrev pub read_of : Received → ℕ → CallRead × List ℕ
read_of r max = read_from max (unread_of r) (is_complete r)

-- these bytes were read, or the end
abbrev pub after_read : Bool → List ℕ → Received → Received
after_read end bytes r = record r { read = r.read ++ bytes; ended = end || r.ended }
