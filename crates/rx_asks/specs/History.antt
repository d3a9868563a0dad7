-- What a caller has to do with the history of its client. Public clauses cite this module.
use Rattle.std.specs.Prelude.{◌≡◌, ◌⊎◌, ◌≤◌, ◌++◌, ℕ, true, false, length, List, ◌∷◌, Option, Some, None, Ok}
use Rattle.rx_model.specs.declared.answers.End.{End}
use Rattle.rx_model.specs.declared.answers.End.TheVariants as ends
use Rattle.rx_model.specs.declared.answers.ReadAns.TheVariants as answers
use Rattle.rx_model.specs.declared.answers.ReadGot.TheVariants as readers
use Rattle.rx_model.specs.declared.event.Event.{Event}
use Rattle.rx_model.specs.declared.event.Event.TheVariants as events
use Rattle.rx_model.specs.declared.names.CallName.{CallName}
use Rattle.rx_model.specs.declared.names.Host.{Host}
use Rattle.rx_model.specs.Names.{same_name}
use Rattle.rx_rules.specs.After.{looks}
use Rattle.rx_rules.specs.Life.{Life}
use Rattle.rx_rules.specs.Life as lives
use Rattle.rx_rules.specs.Looks.{CallRecord, Looks, call_at}
use Rattle.rx_rules.specs.Rules.{AllowedClient, Legal}
use Rattle.rx_rules.specs.Setup.{Setup, Client, FitsSetup}
use Rattle.rx_history.specs.Streams as streams
use Rattle.rx_asks.specs.declared.ask.TheConstants.{CC_UNMARSHAL}
use Rattle.rx_asks.specs.Asks.{Asking, begun, calling}
use Rattle.rx_asks.specs.View.{CallerState, caller_for}

-- an event neither writes, nor shuts, nor reads a call
abbrev pub LeavesCall : CallName → Event → Type 0
LeavesCall c (events.Wrote d offered got bytes) = same_name c d ≡ false
LeavesCall c (events.Shut d got) = same_name c d ≡ false
LeavesCall c (events.HasRead d max got bytes) = same_name c d ≡ false
LeavesCall c _ = Unit {0}

-- a history of its client, from the start of its call on: a caller was made for the call with a request, and nobody
-- else writes, shuts or reads the call
pub data Drives (limit : ℕ) (request : List ℕ) : CallerState → List Event → Type 0 where
  starts : (cid : ℕ) (c : CallName) (h : List Event)
      → Drives limit request (caller_for c request) (events.Called cid (Ok c) ∷ h)
  begins : (v : CallerState) (h : List Event) → Drives limit request v h → Drives limit request (begun v) h
  makes : (v : CallerState) (a : Asking) (e : Event) (h : List Event)
      → (calling limit).asks v ≡ Some a → (calling limit).is a e → Drives limit request v h
      → Drives limit request ((calling limit).heard v e) (e ∷ h)
  leaves : (v : CallerState) (e : Event) (h : List Event)
      → LeavesCall v.call e → Drives limit request v h → Drives limit request v (e ∷ h)

-- a client's call lives or ended
abbrev pub IsCalled : Life → Type 0
IsCalled lives.Calling = Unit {0}
IsCalled (lives.Ended end) = Unit {0}
IsCalled _ = ⊥

-- the same of a call that is looked for: it is there
abbrev pub IsCalledAt : Option CallRecord → Type 0
IsCalledAt None = ⊥
IsCalledAt (Some k) = IsCalled k.life

-- what was said of its call and what it still offers are its request, all of which was said where the call is shut; its
-- reply is what was read of the call; and it is finished by its own cancel, or with the call's end
pub record Tells (request : List ℕ) (v : CallerState) (l : Looks) : Type 0 where
  pub called : IsCalledAt (call_at l v.call)
  pub said : streams.said l v.call ++ v.offering ≡ request
  pub whole : streams.is_shut l v.call ≡ true → streams.said l v.call ≡ request
  pub reply : v.reply ≡ streams.read l v.call
  pub ended : (end : End) → v.end ≡ Some end
      → (end ≡ ends.Cancelled CC_UNMARSHAL) ⊎ (streams.end_at l v.call ≡ Some end)

-- each history of a client that a caller drives is one of which the caller tells
abbrev pub TellsOfItsCall : Type 0
TellsOfItsCall =
    (s : Setup) (host : Host) (epoch limit : ℕ) (request : List ℕ) (v : CallerState) (h : List Event)
    → s.kind ≡ Client host epoch → FitsSetup s → Legal s h → Drives limit request v h → Tells request v (looks s h)

-- a read of a client that is answered Got gives at least one byte
abbrev pub ReadsGiveBytes : Type 0
ReadsGiveBytes =
    (s : Setup) (host : Host) (epoch : ℕ) (l : Looks) (c : CallName) (max n : ℕ) (bytes : List ℕ)
    → AllowedClient s host epoch l (events.HasRead c max (readers.Client (answers.Got n)) bytes) → 1 ≤ length bytes
