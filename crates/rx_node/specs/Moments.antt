-- What decides from when on a channel has something to give, and when its call would die of silence. Public clauses
-- cite this module.
use Rattle.std.specs.Prelude.{◌≡◌, ◌≢◌, ◌+◌, ◌/◌, if◌then◌else◌, ℕ, Bool, false, Option, Some, None}
use Rattle.std.specs.Prelude.{option_and_then, option_map, slice_get, unwrap_or}
use Rattle.rx_model.specs.declared.wire.TheConstants.{SILENCE_MS}
use Rattle.rx_rules.specs.Life.{is_active}
use Rattle.rx_call.specs.Kept.{call_under}
use Rattle.rx_call.specs.Standing.{EndOfCall}
use Rattle.rx_call_ends.specs.Ends.{IsDueOf}
use Rattle.rx_table.specs.Records.{record_at, seat_at}
use Rattle.rx_table.specs.declared.seat.TheConstants.{CHANNELS}
use Rattle.rx_node.specs.Due.{owed_at}
use Rattle.rx_node.specs.Lives.{life_of}
use Rattle.rx_node.specs.Node.{NodeState}
use Rattle.rx_node.specs.declared.item.Item.{Item}
use Rattle.rx_node.specs.declared.life.Life.{Life}

-- whether the client of the connection at a place is proved
abbrev pub proved_at : NodeState → ℕ → Bool
proved_at n place = unwrap_or (option_map (λ r. r.proved) (record_at n.table place)) false

-- the first of what a channel owes at once; none where it owes nothing so, or isn't there
abbrev pub owed_on : NodeState → ℕ → Option Item
owed_on n key =
    option_and_then (λ seat. owed_at seat (proved_at n (key / CHANNELS))) (seat_at n.table key)

-- an end of a call, where the call's life is active
abbrev pub end_while_active : Option Life → Option EndOfCall → Option EndOfCall
end_while_active None end = None
end_while_active (Some life) end = if is_active (life_of life) then end else None

-- the end of a channel's latest call, while that is active
abbrev pub active_end : NodeState → ℕ → Option EndOfCall
active_end n key =
    option_and_then (λ end. end_while_active (slice_get n.lives key) (call_under n.ends.calls end))
    (option_and_then (λ seat. seat.live) (seat_at n.table key))

-- ---- moments

-- from when on a channel with these has something to give: at once what it owes so, else what its call sends
abbrev pub IsRankOf : Option Item → Option EndOfCall → Option ℕ → Type 0
IsRankOf (Some item) end rank = rank ≡ Some 0
IsRankOf None (Some end) rank = IsDueOf end rank
IsRankOf None None rank = rank ≡ None

-- that of the channel with a key
abbrev pub IsRankAt : NodeState → ℕ → Option ℕ → Type 0
IsRankAt n key rank = IsRankOf (owed_on n key) (active_end n key) rank

-- the moment at which a channel's call would die of silence
abbrev pub silence_at : NodeState → ℕ → Option ℕ
silence_at n key = option_map (λ end. end.heard + SILENCE_MS) (active_end n key)

-- ---- what a method leaves

-- a channel owes at once what it owed, and its active call has the end that it had: its moments are the same
pub record SameChannel (old new : NodeState) (key : ℕ) : Type 0 where
  pub owed : owed_on new key ≡ owed_on old key
  pub end : active_end new key ≡ active_end old key

-- every other channel stays what it was
abbrev pub OthersSame : NodeState → NodeState → ℕ → Type 0
OthersSame old new key = (q : ℕ) → q ≢ key → SameChannel old new q

-- each channel of another place does
abbrev pub PlacesSame : NodeState → NodeState → ℕ → Type 0
PlacesSame old new place = (q : ℕ) → q / CHANNELS ≢ place → SameChannel old new q
