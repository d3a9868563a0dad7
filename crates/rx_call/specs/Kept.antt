-- The calls of a node, by key, and the slots that they hold together. Public clauses cite this module.
use Rattle.std.specs.Prelude.{◌≡◌, ◌≢◌, ◌-◌, if◌then◌else◌, ℕ, List, [], Option, Some, None, is_some, count_by, sum_by}
use Rattle.std.specs.Prelude.{length, slice_index_or, slice_set}
use Rattle.std.specs.List.{flat_map}
use Rattle.rx_rules.specs.CallLooks.{CallLooks}
use Rattle.rx_pool.specs.Pool.{Slots}
use Rattle.rx_pool.specs.Held.{Keeps}
use Rattle.rx_call.specs.Standing.{EndOfCall, StandsCall, IsIdle, slots_of, holds_lead}
use Rattle.rx_model.specs.declared.pace.Pace.{Pace}

-- how many calls were made; the pace of each; and at each key its call, or none where the key isn't there
pub record KeptCalls : Type 0 where
  pub room : ℕ
  pub pace : Pace
  pub by_key : List (Option EndOfCall)

-- the call of a key; none where the key isn't there
abbrev pub call_under : KeptCalls → ℕ → Option EndOfCall
call_under calls key = slice_index_or calls.by_key key None

-- how many keys are there
abbrev pub live_count : KeptCalls → ℕ
live_count calls = count_by is_some calls.by_key

-- a key that is there has this call
abbrev pub with_call_under : KeptCalls → ℕ → EndOfCall → KeptCalls
with_call_under calls key c = record calls { by_key = slice_set calls.by_key key (Some c) }

-- the slots that the call of a key holds
abbrev pub slots_under : Option EndOfCall → List ℕ
slots_under None = []
slots_under (Some c) = slots_of c

-- the slots that all calls hold: those of each, by key
abbrev pub slots_of_all : KeptCalls → List ℕ
slots_of_all calls = flat_map slots_under calls.by_key

-- the slots that a call holds beside its lead
abbrev pub beside_of : EndOfCall → ℕ
beside_of c = length (slots_of c) - (if holds_lead c then 1 else 0)

-- the slots that the call of a key holds beside its lead; none where no call is there
abbrev pub beside_under : Option EndOfCall → ℕ
beside_under None = 0
beside_under (Some c) = beside_of c

-- those that all calls hold beside one for each
abbrev pub beside_of_all : KeptCalls → ℕ
beside_of_all calls = sum_by beside_under calls.by_key

-- a call is idle, and has this pace
pub record IsIdleOf (pace : Pace) (c : EndOfCall) : Type 0 where
  pub idle : IsIdle c
  pub pace_is : c.pace ≡ pace

-- each call that is there has the pace of all
abbrev pub HasTheirPace : KeptCalls → Type 0
HasTheirPace calls = (key : ℕ) (c : EndOfCall) → call_under calls key ≡ Some c → c.pace ≡ calls.pace

-- every other key has its call still, or isn't there still; and they are as many calls of the same pace
pub record OthersStay (old new : KeptCalls) (key : ℕ) : Type 0 where
  pub others : (q : ℕ) → q ≢ key → call_under new q ≡ call_under old q
  pub room : new.room ≡ old.room
  pub pace : new.pace ≡ old.pace

-- the call of a key used the pool: what all calls hold is kept as the pool's rules have it, and every other key's call
-- stands for what it stood for
pub record ChangesOne (pool after : Slots) (old new : KeptCalls) (key : ℕ) : Type 0 where
  pub kept : OthersStay old new key
  pub keeps : Keeps pool after (slots_of_all old) (slots_of_all new)
  pub stands : (q : ℕ) (c : EndOfCall) (k : CallLooks) → q ≢ key → call_under old q ≡ Some c → StandsCall pool c k →
      StandsCall after c k
