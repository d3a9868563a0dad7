-- What a caller asks of its client in a turn. Public clauses cite this module.
use Rattle.std.specs.Prelude.{◌≡◌, ◌++◌, if◌then◌else◌, nat_lt, is_some, ℕ, ℤ, Bool, true, false, List, [], ◌∷◌, length}
use Rattle.std.specs.Prelude.{take, drop, Option, Some, None, option_map}
use Rattle.rx_model.specs.declared.answers.End.{End}
use Rattle.rx_model.specs.declared.answers.End.TheVariants as ends
use Rattle.rx_model.specs.declared.answers.ReadAns.{ReadAns}
use Rattle.rx_model.specs.declared.answers.ReadAns.TheVariants as answers
use Rattle.rx_model.specs.declared.answers.ReadGot.TheVariants as readers
use Rattle.rx_model.specs.declared.answers.WroteGot.TheVariants as writers
use Rattle.rx_model.specs.declared.event.Event.{Event}
use Rattle.rx_model.specs.declared.event.Event.TheVariants as events
use Rattle.rx_model.specs.declared.names.CallName.{CallName}
use Rattle.rx_events.specs.Events.{written_count}
use Rattle.rx_wire.specs.Turns.{Program}
use Rattle.rx_asks.specs.declared.ask.Ask.{Ask}
use Rattle.rx_asks.specs.declared.ask.Ask.TheVariants as asks
use Rattle.rx_asks.specs.declared.ask.Phase.{Phase}
use Rattle.rx_asks.specs.declared.ask.Phase.TheVariants as phases
use Rattle.rx_asks.specs.declared.ask.TheConstants.{BLOCK_BYTES, CC_UNMARSHAL}
use Rattle.rx_asks.specs.View.{CallerState}

-- ---- what it asks

-- a call of its client: these bytes are offered, the request ends, at most so many bytes are read, the call is given up
pub data Asking : Type 0 where
  Offers : (c : CallName) (bytes : List ℕ) → Asking
  Shuts : (c : CallName) → Asking
  Reads : (c : CallName) (max : ℕ) → Asking
  Cancels : (c : CallName) (code : ℤ) → Asking

-- while all that it offered was accepted: the next bytes, then the end of the request, and then it reads
abbrev pub next_offering : Bool → List ℕ → Ask
next_offering true offering = asks.Read
next_offering false [] = asks.Shut
next_offering false (x ∷ xs) = asks.Offer

-- by where its turn stands
abbrev pub next_at : Phase → CallerState → Option Ask
next_at phases.Offering v = Some (next_offering v.shut v.offering)
next_at phases.Reading v = Some asks.Read
next_at phases.Resting v = None

-- the next call, where at most so many bytes are kept of a reply: none where it is finished, and a reply that passes
-- the limit is given up at once
abbrev pub next_ask : ℕ → CallerState → Option Ask
next_ask limit v =
    if is_some v.end then None else if nat_lt limit (length v.reply) then Some asks.Cancel else next_at v.phase v

-- with its operands
abbrev pub asking : CallerState → Ask → Asking
asking v asks.Offer = Offers v.call (take BLOCK_BYTES v.offering)
asking v asks.Shut = Shuts v.call
asking v asks.Read = Reads v.call BLOCK_BYTES
asking v asks.Cancel = Cancels v.call CC_UNMARSHAL

-- ---- what it is told

-- an event is that call with some answer
abbrev pub IsAsked : Asking → Event → Type 0
IsAsked (Offers c block) (events.Wrote d offered (writers.Client got) bytes) =
    (d ≡ c) × (offered ≡ length block) × (bytes ≡ take (written_count got) block)
IsAsked (Shuts c) (events.Shut d got) = d ≡ c
IsAsked (Reads c max) (events.HasRead d most (readers.Client got) bytes) = (d ≡ c) × (most ≡ max)
IsAsked (Cancels c code) (events.Cancelled d told got) = (d ≡ c) × (told ≡ code)
IsAsked _ _ = ⊥

-- where a turn stands behind an offer of so many bytes, of which so many were accepted: where that is less, it offers
-- no more
abbrev pub phase_offered : ℕ → ℕ → Phase → Phase
phase_offered accepted offered before = if nat_lt accepted offered then phases.Reading else before

-- of so many bytes these were accepted
abbrev pub after_offer : ℕ → List ℕ → CallerState → CallerState
after_offer offered bytes v =
    record v {
      offering = drop (length bytes) v.offering;
      phase = phase_offered (length bytes) offered v.phase;
    }

-- where a turn stands behind a read that was answered Got: the rules give no such answer without bytes
abbrev pub after_bytes : List ℕ → Phase
after_bytes [] = phases.Resting
after_bytes (x ∷ xs) = phases.Reading

-- where it stands behind a read
abbrev pub phase_after : ReadAns → List ℕ → Phase
phase_after (answers.Got n) bytes = after_bytes bytes
phase_after answers.End bytes = phases.Resting
phase_after answers.NotYet bytes = phases.Resting
phase_after (answers.Gone end) bytes = phases.Resting
phase_after answers.Unknown bytes = phases.Resting

-- the end that a read tells
abbrev pub end_after : ReadAns → Option End → Option End
end_after (answers.Got n) before = before
end_after answers.End before = Some ends.Ok
end_after answers.NotYet before = before
end_after (answers.Gone end) before = Some end
end_after answers.Unknown before = before

-- a read answered, with these bytes
abbrev pub after_reading : ReadAns → List ℕ → CallerState → CallerState
after_reading got bytes v =
    record v { reply = v.reply ++ bytes; end = end_after got v.end; phase = phase_after got bytes }

-- what it knows behind an event of its turn
abbrev pub heard : CallerState → Event → CallerState
heard v (events.Wrote c offered got bytes) = after_offer offered bytes v
heard v (events.Shut c got) = record v { shut = true }
heard v (events.HasRead c max (readers.Client got) bytes) = after_reading got bytes v
heard v (events.Cancelled c code got) = record v { end = Some (ends.Cancelled code) }
heard v _ = v

-- ---- its turns

-- a turn begins
abbrev pub begun : CallerState → CallerState
begun v = record v { phase = phases.Offering }

-- finished by where its turn stands: one that ended is, once a turn began since
abbrev pub done_at : Phase → Bool → Bool
done_at phases.Offering ended = ended
done_at phases.Reading ended = false
done_at phases.Resting ended = false

-- it is finished, and a turn began since: one more asks nothing and changes nothing
abbrev pub is_done : CallerState → Bool
is_done v = done_at v.phase (is_some v.end)

-- a caller that keeps at most so many bytes of a reply, as a program that makes calls of its client
abbrev pub calling : ℕ → Program CallerState Asking
calling limit = record { asks = λ v. option_map (asking v) (next_ask limit v); is = IsAsked; heard = heard }
