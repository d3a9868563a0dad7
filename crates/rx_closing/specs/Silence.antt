-- In fair rounds a call of a client is found dead only in silence. Public clauses cite this module.
use Rattle.std.specs.Prelude.{◌≡◌, ◌++◌, ℕ, suc, Bool, true, false, List, ◌∷◌, length, Some, Ok, IfSome, IsSomeAnd}
use Rattle.std.specs.Prelude.{slice_get}
use Rattle.rx_model.specs.declared.answers.End.TheVariants as ends
use Rattle.rx_model.specs.declared.answers.Took.{Took}
use Rattle.rx_model.specs.declared.answers.Took.TheVariants as tooks
use Rattle.rx_model.specs.declared.event.Event.{Event}
use Rattle.rx_model.specs.declared.event.Event.TheVariants as events
use Rattle.rx_model.specs.declared.event.Noted.{Noted}
use Rattle.rx_model.specs.declared.names.CallName.{CallName}
use Rattle.rx_model.specs.declared.names.Host.{Host}
use Rattle.rx_model.specs.Message.{Message}
use Rattle.rx_model.specs.Reading.{reading_of}
use Rattle.rx_rules.specs.Setup.{Setup, named}
use Rattle.rx_history.specs.Sides.{Node}
use Rattle.rx_history.specs.Streams.{end_at}
use Rattle.rx_script.specs.declared.plan.Numbered.{Numbered}
use Rattle.rx_jobs.specs.Handlers.{Handlers}
use Rattle.rx_wire.specs.Turns.{noted}
use Rattle.rx_plan.specs.Promises.{plan_nodes}
use Rattle.rx_plan.specs.Stages.{Stage}
use Rattle.rx_closing.specs.Living.{all_live, call_lives_at, looks_of}
use Rattle.rx_closing.specs.Closing.{RoundsBehind}

-- an answer with which a message for a live call is heard
abbrev pub is_hearing : Took → Bool
is_hearing tooks.Kept = true
is_hearing tooks.Repeat = true
is_hearing tooks.Beyond = true
is_hearing tooks.Clash = true
is_hearing tooks.NoSlot = true
is_hearing tooks.Heard = true
is_hearing _ = false

-- a message of a call came, with such an answer
pub record CameWith (s : Setup) (answers : Took → Type 0) (c : CallName) (e : Event) : Type 0 where
  pub from : Host
  pub datagram : List ℕ
  pub got : Took
  pub is : e ≡ events.Taken from datagram got
  pub message : Message
  pub reads : reading_of datagram ≡ Ok message
  pub of : named s from message ≡ c
  pub such : answers got

-- with one of these events of a node
pub record CameAmong (node : ℕ) (s : Setup) (answers : Took → Type 0) (c : CallName) (es : List Noted) : Type 0 where
  pub before : List Noted
  pub event : Event
  pub later : List Noted
  pub are : es ≡ before ++ noted node event ∷ later
  pub comes : CameWith s answers c event

-- a client's call that lived and was found dead in rounds, though a message of it was heard in them, had one that the
-- server had no place for
abbrev pub DeadInSilence : List Node → Stage → List Noted → Stage → CallName → Type 0
DeadInSilence nodes s fs t c =
    (k : ℕ) (silence : ℕ)
    → IfSome (slice_get nodes (suc k)) (λ n. call_lives_at s c (suc k) n ≡ true
    → end_at (looks_of t (suc k) n) c ≡ Some (ends.Dead silence)
    → CameAmong (suc k) n.setup (λ got. is_hearing got ≡ true) c fs
    → IsSomeAnd (slice_get nodes 0) (λ server. CameAmong 0 server.setup (λ got. got ≡ tooks.Full) c fs))

-- in the rounds of one call alone, however many rounds there are
abbrev pub DeadOneInSilence : Type 0
DeadOneInSilence =
    (g : Handlers) (ls : List Numbered) (n : ℕ) (s t : Stage) → (r : RoundsBehind g ls n s t)
    → length (all_live s) ≡ 1 → (c : CallName) → DeadInSilence (plan_nodes ls) s r.fs t c
