-- The two ends of one call by themselves, and a fair round between them while no clock moves.
use Rattle.std.specs.Prelude.{◌+◌, ◌-◌, ◌%◌, ◌^◌, if◌then◌else◌, ℕ, suc, zero, Bool, true, false}
use Rattle.std.specs.Prelude.{List, [], ◌∷◌, Option, Some, None}
use Rattle.rx_model.specs.declared.answers.Took.{Took}
use Rattle.rx_model.specs.declared.wire.TheConstants.{CLIENT_INITIATED}
use Rattle.rx_model.specs.Message.{Message}
use Rattle.rx_rules.specs.CallItems.{Sending, sending_body, sending_flags, sending_seq, next_sending, after_sending}
use Rattle.rx_rules.specs.CallLooks.{CallLooks, NodeView, call_row, held, lead}

-- where a call's end stands: at a client; the node's window; how many slots it has beside one for each call; its
-- moment; what the headers of its datagrams have in common
pub record Place : Type 0 where
  pub client : Bool
  pub window : ℕ
  pub shared : ℕ
  pub now : ℕ
  pub header : Message

-- one end, and how many datagrams its connection gave
pub record CallEnd : Type 0 where
  pub looks : CallLooks
  pub given : ℕ

-- what a node with this one call tells it
abbrev pub view_of : Place → CallLooks → NodeView
view_of p k =
    record { client = p.client; window = p.window; left = p.shared - (held k - lead k); now = p.now }

-- ---- polling

-- what a poll gives of this call
abbrev pub next_of : Place → CallLooks → Option Sending
next_of p k = next_sending (view_of p k) k

-- its message
abbrev pub message_of : Place → CallEnd → Sending → Message
message_of p e x =
    record p.header {
      seq = sending_seq x;
      serial = suc e.given % 2 ^ 32;
      flags = (if p.client then CLIENT_INITIATED else 0) + sending_flags e.looks x;
      body = sending_body p.window e.looks x;
    }

-- behind its giving
abbrev pub gave : Place → Sending → CallEnd → CallEnd
gave p x e = record { looks = after_sending p.now x e.looks; given = suc e.given }

-- an end after its polls, and what they gave, the oldest first
pub record Polls : Type 0 where
  pub end : CallEnd
  pub messages : List Message

-- one message before these
abbrev pub onto : Message → Polls → Polls
onto m r = record r { messages = m ∷ r.messages }

-- polled until None, at most so many times
abbrev pub polls : ℕ → Place → CallEnd → Polls
polls zero p e = record { end = e; messages = [] }
polls (suc more) p e =
    elim (next_of p e.looks) as (λ o. Polls) [
      | None ↦ record { end = e; messages = [] }
      | Some x ↦ onto (message_of p e x) (polls more p (gave p x e))
    ]

-- ---- taking

-- the row of a message for the call
abbrev pub row_of : Place → Message → CallLooks → Took
row_of p m k = call_row (view_of p k) m m.body k

-- ---- a round

-- where nothing is given the clocks would move
abbrev pub is_none : List Message → Bool
is_none [] = true
is_none (m ∷ ms) = false
