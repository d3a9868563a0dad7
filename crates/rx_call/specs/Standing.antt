-- What an end of a call is, and for what it stands. Public clauses cite this module.
use Rattle.std.specs.Prelude.{◌≡◌, ◌≤◌, ◌<◌, ◌+◌, ◌||◌, ◌&&◌, ◌==◌, ◌++◌, not, if◌then◌else◌, nat_lt, ℕ, Bool, true}
use Rattle.std.specs.Prelude.{false, List, length}
use Rattle.std.specs.Prelude.{[], Option, Some, None}
use Rattle.rx_model.specs.declared.wire.TheConstants.{PAYLOAD_BYTES}
use Rattle.rx_model.specs.declared.answers.Took.{Took}
use Rattle.rx_model.specs.Body.{Body}
use Rattle.rx_model.specs.Body as bodies
use Rattle.rx_rules.specs.CallItems.{Sending, after_sending, asks}
use Rattle.rx_rules.specs.CallItems as items
use Rattle.rx_rules.specs.CallLooks.{CallLooks, NodeView, has_lead}
use Rattle.rx_rules.specs.Owing.{Owed}
use Rattle.rx_rules.specs.Rates.{Rtt, Cwnd}
use Rattle.rx_rules.specs.Received.{Packet, nothing_received, arrival_row, arrival_of, has_slot}
use Rattle.rx_rules.specs.Sent.{nothing_sent, piece_at, pieces_by}
use Rattle.rx_pool.specs.Pool.{Slots}
use Rattle.rx_recvwin.specs.Places.{leading}
use Rattle.rx_recvwin.specs.Window.{RecvWindow, StandsReceived, packet_slots}
use Rattle.rx_sendwin.specs.Window.{SendWindow, StandsSent, piece_slots}
use Rattle.rx_call.specs.declared.giving.Giving.{Giving}
use Rattle.rx_call.specs.declared.giving.Giving.TheVariants as givings
use Rattle.rx_call.specs.declared.owing.OwedAck.{OwedAck}
use Rattle.rx_call.specs.declared.side.Side.{Side}
use Rattle.rx_call.specs.declared.side.Side.TheVariants as sides
use Rattle.rx_model.specs.declared.pace.Pace.{Pace}

-- whether it is a client's end; its node's pace; what it received and what it said, in slots; its rates; the
-- acknowledgement that it owes; the moment at which it was last heard, and that at which it last gave a DATA or an ACK
pub record EndOfCall : Type 0 where
  pub client : Bool
  pub pace : Pace
  pub received : RecvWindow
  pub sent : SendWindow
  pub rtt : Rtt
  pub cwnd : Cwnd
  pub owed : Option Owed
  pub heard : ℕ
  pub spoke : ℕ

-- ---- what the code keeps, as the rules have it

-- whether a side is the client's
abbrev pub is_client : Side → Bool
is_client sides.Client = true
is_client sides.Server = false

-- an acknowledgement that is owed
abbrev pub owed_ack : OwedAck → Owed
owed_ack o = record { reason = o.reason; serial = o.serial; rank = o.rank }

-- the one that is owed, or none
abbrev pub owed_of : Option OwedAck → Option Owed
owed_of None = None
owed_of (Some o) = Some (owed_ack o)

-- ---- for what it stands

-- with the bytes of its pool, an end of a call stands for what a history says of it
pub record StandsCall (pool : Slots) (c : EndOfCall) (k : CallLooks) : Type 0 where
  pub received : StandsReceived pool c.received k.received
  pub sent : StandsSent pool c.sent k.sent
  pub rtt : c.rtt ≡ k.rtt
  pub cwnd : c.cwnd ≡ k.cwnd
  pub owed : c.owed ≡ k.owed_ack
  pub heard : c.heard ≡ k.heard
  pub spoke : c.spoke ≡ k.spoke

-- it is idle: nothing came and nothing was said, and it holds no slot
pub record IsIdle (c : EndOfCall) : Type 0 where
  pub received : (pool : Slots) → StandsReceived pool c.received nothing_received
  pub sent : (pool : Slots) → StandsSent pool c.sent nothing_sent
  pub packets : packet_slots c.received ≡ []
  pub pieces : piece_slots c.sent ≡ []
  pub unshut : c.sent.shut ≡ false

-- it stays the same end of the same node
pub record IsSameEnd (old new : EndOfCall) : Type 0 where
  pub client : new.client ≡ old.client
  pub pace : new.pace ≡ old.pace

-- what its node tells the rules
abbrev pub view_of : EndOfCall → ℕ → ℕ → NodeView
view_of c left now = record { client = c.client; window = c.pace.window; left = left; now = now }

-- ---- slots

-- the slots that it holds: those of its packets, then those of its pieces
abbrev pub slots_of : EndOfCall → List ℕ
slots_of c = packet_slots c.received ++ piece_slots c.sent

-- whether a packet that stands without a gap isn't done with
abbrev pub has_unread : RecvWindow → Bool
has_unread w = nat_lt w.used (w.used + leading w.places)

-- each piece of a stream that is shut was given
abbrev pub is_sent : SendWindow → Bool
is_sent w = w.shut && (w.given == pieces_by w.total w.shut)

-- whether it holds a packet that stands without a gap, or a piece
abbrev pub holds_lead : EndOfCall → Bool
holds_lead c = has_unread c.received || nat_lt 0 (length (piece_slots c.sent))

-- 1 where it holds none: its next packet or piece has a slot beside those that are left
abbrev pub leadless : EndOfCall → ℕ
leadless c = if holds_lead c then 0 else 1

-- so many slots are left for any call, and where it holds no lead one more
abbrev pub HasSpare : Slots → EndOfCall → ℕ → Type 0
HasSpare pool c left = left + leadless c ≤ length pool.free

-- ---- what comes and what is given

-- the payload of a data packet is no longer than a slot
abbrev pub FitsSlot : Body → Type 0
FitsSlot (bodies.Chunk payload) = length payload ≤ PAYLOAD_BYTES
FitsSlot bodies.Busy = Unit {0}
FitsSlot (bodies.Ack ack) = Unit {0}
FitsSlot (bodies.Abort code) = Unit {0}
FitsSlot bodies.AckAll = Unit {0}
FitsSlot (bodies.Challenge bytes) = Unit {0}
FitsSlot (bodies.Response bytes) = Unit {0}

-- the row of a data packet that has a seq and comes after the request was given
abbrev pub data_row : ℕ → ℕ → Packet → CallLooks → Took
data_row window left p k =
    arrival_row (arrival_of window (has_slot (not (has_lead k)) left p.seq k.received) p k.received)

-- behind an acknowledgement: one that is strange changes nothing
abbrev pub heard_or_same : Bool → CallLooks → CallLooks → CallLooks
heard_or_same strange heard k = if strange then k else heard

-- how a sending is told
abbrev pub giving_of : CallLooks → Option Sending → Option Giving
giving_of k None = None
giving_of k (Some (items.Piece seq again)) =
    Some (givings.Piece seq (asks k.cwnd k.sent seq again) (piece_at k.sent seq).last)
giving_of k (Some (items.Ack reason serial)) = Some (givings.Ack reason serial)

-- behind what was given, or nothing
abbrev pub after_given : ℕ → Option Sending → CallLooks → CallLooks
after_given now None k = k
after_given now (Some sending) k = after_sending now sending k

-- it holds the piece with this seq
pub record HoldsPiece (c : EndOfCall) (seq : ℕ) : Type 0 where
  pub above : c.sent.acked < seq
  pub within : seq ≤ c.sent.acked + length c.sent.pieces

-- it holds the piece that was given, if one was
abbrev pub HoldsGiven : EndOfCall → Option Giving → Type 0
HoldsGiven c None = Unit {0}
HoldsGiven c (Some (givings.Piece seq asks last)) = HoldsPiece c seq
HoldsGiven c (Some (givings.Ack reason serial)) = Unit {0}
