-- What one end of a call owes. Public clauses cite this module.
use Rattle.std.specs.Prelude.{◌==◌, ◌&&◌, ◌||◌, ◌+◌, ◌-◌, ◌/◌, ◌%◌, if◌then◌else◌, nat_lt, nat_le, ℕ, suc, Bool, true}
use Rattle.std.specs.Prelude.{false}
use Rattle.std.specs.Prelude.{List, [], ◌∷◌, ◌++◌, filter, Option, Some, None, option_map}
use Rattle.rx_model.specs.declared.wire.TheConstants.{ACK_DELAY_MS, REQUEST_ACK, LAST_PACKET, ACK_PING, PING_MS}
use Rattle.rx_model.specs.Body.{Body, AckBody}
use Rattle.rx_model.specs.Body as bodies
use Rattle.rx_rules.specs.CallLooks.{CallLooks, NodeView, after_ack_given, after_piece}
use Rattle.rx_rules.specs.Least.{least_by}
use Rattle.rx_rules.specs.Lost.{is_once, lost_of}
use Rattle.rx_rules.specs.Owing.{Owed}
use Rattle.rx_rules.specs.Rates.{Cwnd}
use Rattle.rx_rules.specs.Received.{Received, used_of, marks_of}
use Rattle.rx_rules.specs.Sent.{Sent, LastGiving, piece_at, counting_of, given_of, in_flight, is_let, last_giving}
use Rattle.rx_rules.specs.Sent.{lowest_of}
use Rattle.rx_rules.specs.Sent.{after_giving}

-- a piece, for the first time or again; an acknowledgement
pub data Sending : Type 0 where
  Piece : (seq : ℕ) (again : Bool) → Sending
  Ack : (reason serial : ℕ) → Sending

-- what is owed, and from which moment on it is due, 0 for at once
pub record CallItem : Type 0 where
  pub rank : ℕ
  pub sending : Sending

-- one item
abbrev pub item_at : ℕ → Sending → List CallItem
item_at rank sending = record { rank = rank; sending = sending } ∷ []

-- the lowest piece that was never given, where it counts and both windows let it go
abbrev pub can_give : Cwnd → Sent → Bool
can_give c s =
    nat_lt (given_of s) (counting_of s) && (nat_lt (in_flight s) c.window && is_let s (suc (given_of s)))

-- it is due at once
abbrev pub fresh_items : Cwnd → Sent → List CallItem
fresh_items c s = if can_give c s then item_at 0 (Piece (suc (given_of s)) false) else []

-- a piece that is taken for lost is given again at once
abbrev pub lost_items : Option ℕ → List CallItem
lost_items None = []
lost_items (Some k) = item_at 0 (Piece k true)

-- how long a piece waits for its acknowledgement behind its last giving: one RTO; where it was given once, a prompt
-- node waits longer by what a peer may delay one that wasn't asked for (RFC 9002, section 6.2.1)
abbrev pub resend_after : ℕ → Bool → Option LastGiving → ℕ
resend_after rto prompt g = if prompt && is_once g then rto + ACK_DELAY_MS else rto

-- then it is given again
abbrev pub again_items : ℕ → ℕ → Option LastGiving → List CallItem
again_items wait k None = []
again_items wait k (Some g) = item_at (g.moment + wait) (Piece k true)

-- the acknowledgement that is owed
abbrev pub ack_items : Option Owed → List CallItem
ack_items None = []
ack_items (Some owed) = item_at owed.rank (Ack owed.reason owed.serial)

-- a client pings where it gave nothing for a while
abbrev pub ping_items : Bool → ℕ → List CallItem
ping_items client spoke = if client then item_at (spoke + PING_MS) (Ack ACK_PING 0) else []

-- the pieces that a sending window owes: the one that is taken for lost, the next one, and the lowest that isn't
-- acknowledged
abbrev pub piece_items : ℕ → Cwnd → Sent → List CallItem
piece_items rto c s =
    lost_items (lost_of c s)
    ++ (fresh_items c s
    ++ again_items (resend_after rto c.prompt (last_giving s.givings (lowest_of s))) (lowest_of s)
    (last_giving s.givings (lowest_of s)))

-- in the order in which ties are broken
abbrev pub call_items : Bool → CallLooks → List CallItem
call_items client k =
    piece_items k.rtt.rto k.cwnd k.sent ++ (ack_items k.owed_ack ++ ping_items client k.spoke)

-- what it gives next: the first item of least rank of those that are due
abbrev pub next_sending : NodeView → CallLooks → Option Sending
next_sending v k =
    option_map (λ i. i.sending) (least_by (λ i. i.rank) (filter (λ i. nat_le i.rank v.now) (call_items v.client k)))

-- from when on something is due
abbrev pub call_due : Bool → CallLooks → Option ℕ
call_due client k = option_map (λ i. i.rank) (least_by (λ i. i.rank) (call_items client k))

-- behind what it gave
abbrev pub after_sending : ℕ → Sending → CallLooks → CallLooks
after_sending now (Piece seq again) k = after_piece now seq k
after_sending now (Ack reason serial) k = after_ack_given now k

-- ---- its datagram

-- behind its giving a window is full: that of congestion, or the peer's
abbrev pub fills : Cwnd → Sent → ℕ → Bool
fills c s k = nat_le c.window (in_flight (after_giving 0 k s)) || (k == s.acked + s.peer_window)

-- it ends half of what a prompt node can give of its own window, all but the piece that is being filled
abbrev pub prompts : Cwnd → ℕ → Bool
prompts c k = c.prompt && (k % ((c.most - 1) / 2) == 0)

-- a piece asks for an acknowledgement where it is the last, is given again, fills a window, or ends half of the own one
-- of a prompt node
abbrev pub asks : Cwnd → Sent → ℕ → Bool → Bool
asks c s seq again = (piece_at s seq).last || (again || (fills c s seq || prompts c seq))

-- REQUEST_ACK where it asks, LAST_PACKET where it is the last
abbrev pub flags_of : Bool → Bool → ℕ
flags_of asks last = (if asks then REQUEST_ACK else 0) + (if last then LAST_PACKET else 0)

-- a ping asks for its answer
abbrev pub sending_flags : CallLooks → Sending → ℕ
sending_flags k (Piece seq again) = flags_of (asks k.cwnd k.sent seq again) (piece_at k.sent seq).last
sending_flags k (Ack reason serial) = flags_of (reason == ACK_PING) false

-- the seq of a piece; an ACK has none
abbrev pub sending_seq : Sending → ℕ
sending_seq (Piece seq again) = seq
sending_seq (Ack reason serial) = 0

-- what an acknowledgement tells of the packets that came, and of the window
abbrev pub ack_body : ℕ → ℕ → ℕ → Received → AckBody
ack_body window reason serial r =
    record {
      first = used_of r + 1;
      previous = r.previous;
      serial = serial;
      reason = reason;
      marks = marks_of r;
      window = Some window;
    }

-- a piece of the stream, or what came of the other
abbrev pub sending_body : ℕ → CallLooks → Sending → Body
sending_body window k (Piece seq again) = bodies.Chunk (piece_at k.sent seq).payload
sending_body window k (Ack reason serial) = bodies.Ack (ack_body window reason serial k.received)
