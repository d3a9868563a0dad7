-- The ends of a node's calls, by key, over the slots that they share. Public clauses cite this module.
use Rattle.std.specs.Prelude.{◌≡◌, ◌≢◌, ◌≤◌, ◌+◌, ◌-◌, ℕ, Bool, false, true, length, Option, Some, is_some}
use Rattle.std.specs.Prelude.{IsSomeAnd}
use Rattle.rx_rules.specs.CallItems.{call_due}
use Rattle.rx_rules.specs.CallLooks.{CallLooks, NodeView, held, lead}
use Rattle.rx_pool.specs.Pool.{Slots}
use Rattle.rx_pool.specs.Held.{Holds}
use Rattle.rx_call.specs.Kept.{KeptCalls, HasTheirPace, OthersStay, beside_of_all, call_under, live_count}
use Rattle.rx_call.specs.Kept.{slots_of_all}
use Rattle.rx_call.specs.Standing.{EndOfCall, StandsCall, IsIdle, HoldsPiece, HoldsGiven, has_unread}
use Rattle.rx_call.specs.declared.giving.Giving.{Giving}

-- whether its node is a client; the calls by key; the pool of their slots; how many slots they may hold beside one for
-- each, and how many they do
pub record EndsState : Type 0 where
  pub client : Bool
  pub calls : KeptCalls
  pub pool : Slots
  pub shared : ℕ
  pub common : ℕ

-- an end of a call of this node stands for what a history says of it
pub record StandsAs (e : EndsState) (c : EndOfCall) (k : CallLooks) : Type 0 where
  pub stands : StandsCall e.pool c k
  pub client : c.client ≡ e.client
  pub pace : c.pace ≡ e.calls.pace

-- the call of a key does
abbrev pub StandsEnd : EndsState → ℕ → CallLooks → Type 0
StandsEnd e key k = IsSomeAnd (call_under e.calls key) (λ c. StandsAs e c k)

-- a key is there
abbrev pub IsThere : EndsState → ℕ → Type 0
IsThere e key = is_some (call_under e.calls key) ≡ true

-- a key is there, and its call is idle
abbrev pub IsIdleAt : EndsState → ℕ → Type 0
IsIdleAt e key = IsSomeAnd (call_under e.calls key) IsIdle

-- a key is there, and the own stream of its call isn't shut
abbrev pub IsUnshut : EndsState → ℕ → Type 0
IsUnshut e key = IsSomeAnd (call_under e.calls key) (λ c. c.sent.shut ≡ false)

-- ---- slots

-- how many slots a call holds beside its own, of what a history says of it
abbrev pub beside_looks : CallLooks → ℕ
beside_looks k = held k - lead k

-- what a node's calls keep true, with what they stand for: each that is there stands for its record; their slots are of
-- the pool, none held twice, and all others are free; no more are there than there is room for; the slots beside one
-- for each are counted, and are no more than may be
pub record KeepsSlots (e : EndsState) : Type 0 where
  pub looks : ℕ → CallLooks
  pub stands : (key : ℕ) (c : EndOfCall) → call_under e.calls key ≡ Some c → StandsCall e.pool c (looks key)
  pub pace : HasTheirPace e.calls
  pub holds : Holds e.pool (slots_of_all e.calls)
  pub all : length e.pool.free + length (slots_of_all e.calls) ≡ e.shared + e.calls.room
  pub live : live_count e.calls ≤ e.calls.room
  pub common : e.common ≡ beside_of_all e.calls
  pub within : e.common ≤ e.shared

-- ---- what a method changes

-- what a node tells the end of each of its calls
abbrev pub view_at : EndsState → ℕ → NodeView
view_at e now =
    record { client = e.client; window = e.calls.pace.window; left = e.shared - e.common; now = now }

-- it stays a node of the same kind, with as many shared slots; what another key has, and for what that stands, stays
pub record KeepsEnds (old new : EndsState) (key : ℕ) : Type 0 where
  pub others : OthersStay old.calls new.calls key
  pub stands : (q : ℕ) (k : CallLooks) → q ≢ key → StandsEnd old q k → StandsEnd new q k
  pub client : new.client ≡ old.client
  pub shared : new.shared ≡ old.shared

-- the call of a key takes a step: it is there still, and stands for what the step makes of each record for which it
-- stood; and what calls hold beside their own slots goes on as it does
pub record StepsEnd (old new : EndsState) (key : ℕ) (step : CallLooks → CallLooks) : Type 0 where
  pub there : IsThere new key
  pub stands : (k : CallLooks) → StandsEnd old key k → StandsEnd new key (step k)
  pub common : (k : CallLooks) → StandsEnd old key k → new.common + beside_looks k ≡ old.common + beside_looks (step k)
  pub keeps : KeepsEnds old new key

-- ---- when a call is due

-- an end of a call has something to give from this moment on, or has nothing: so it is of all that it can stand for,
-- whatever bytes its pool has
abbrev pub IsDueOf : EndOfCall → Option ℕ → Type 0
IsDueOf c moment = (pool : Slots) (k : CallLooks) → StandsCall pool c k → moment ≡ call_due c.client k

-- ---- what a call holds

-- the call of a key holds the piece with this seq
abbrev pub HoldsAt : EndsState → ℕ → ℕ → Type 0
HoldsAt e key seq = IsSomeAnd (call_under e.calls key) (λ c. HoldsPiece c seq)

-- it holds the piece that was given, if one was
abbrev pub GivesAt : EndsState → ℕ → Option Giving → Type 0
GivesAt e key given = IsSomeAnd (call_under e.calls key) (λ c. HoldsGiven c given)

-- where nothing was said on it, no packet that it holds stands without a gap, so that its own slot takes its one empty
-- piece
abbrev pub HasShutSlot : EndsState → ℕ → Type 0
HasShutSlot e key = IsSomeAnd (call_under e.calls key) (λ c. c.sent.total ≡ 0 → has_unread c.received ≡ false)
