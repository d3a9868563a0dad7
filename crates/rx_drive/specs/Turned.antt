-- Turns of a program on a node, and one call of a turn, by how it went. Public clauses cite this module.
use Rattle.std.specs.Prelude.{◌≡◌, ◌≤◌, ◌-◌, ◌^◌, ℕ, Bool, true, false, List, length, Some, None, Result, Ok, Err}
use Rattle.rx_model.specs.declared.event.Event.{Event}
use Rattle.rx_model.specs.declared.event.Noted.{Noted}
use Rattle.rx_rules.specs.Setup.{Setup}
use Rattle.rx_run.specs.Parts.{To, Ended, Cut, Endless, Part}
use Rattle.rx_run.specs.Programs.{Stages}
use Rattle.rx_wire.specs.Turns.{Program, noted}
use Rattle.rx_drive.specs.Carried.{Onto}
use Rattle.rx_drive.specs.Nodes.{Answers}
use Rattle.rx_drive.specs.Ran.{Fault, wants_memory, wire_failed}
use Rattle.rx_drive.specs.Tells.{IsTold, Step, Told}
use Rattle.rx_drive.specs.declared.stop.Stop.{Stop}
use Rattle.rx_drive.specs.declared.stop.Stop.TheVariants as stops

-- steps of a turn that may go on, where this is so of what is known then
abbrev pub GoneOn : {S View Ask : Type 0} → Stages S Step → Program View Ask → (View → Type 0) → ℕ → View → S
    → List Step
    → Type 0
GoneOn {S} {View} st p so node v s ss = (w : View) × (u : S) × Onto st p node v s ss w u × so w

-- a turn of a program on a node, whose next call may want memory where this is so of what is known; one of 2^64 - 1
-- calls or more may count as endless
abbrev pub turn : {S View Ask : Type 0} → Stages S Step → Program View Ask → (View → Type 0) → ℕ → View → S
    → Part Step Fault (View × S)
turn st p wants node v s ss (To (w, u)) = Onto st p node v s ss w u × (p.asks w ≡ None)
turn st p wants node v s ss (Ended wants_memory) = GoneOn st p wants node v s ss
turn st p wants node v s ss (Ended wire_failed) = ⊥
turn st p wants node v s ss Cut = GoneOn st p (λ w. Unit {0}) node v s ss
turn st p wants node v s ss Endless = GoneOn st p (λ w. Unit {0}) node v s ss × (2 ^ 64 - 1 ≤ length ss)

-- the next call of a turn was made on a node: what it asks, the event with the node's answer, and what is known then
pub record CallsNext {View Ask : Type 0} (p : Program View Ask) (s : Setup) (stood stands : List Event → Type 0)
    (v w : View) (e : Event) : Type 0 where
  pub ask : Ask
  pub asked : p.asks v ≡ Some ask
  pub is : p.is ask e
  pub answers : Answers s stood stands e
  pub heard : w ≡ p.heard v e

-- how one call of a turn went: it was made and told; or there was none, as the turn is over; or the run ended as it was
-- told; or memory was wanted before it
pub data CallsOnce {View Ask : Type 0} (p : Program View Ask) (wants : View → Type 0) (s : Setup)
    (stood stands : List Event → Type 0) (node : ℕ) (line : Noted → List ℕ) (v w : View) (a b : Told)
    : Result Bool Stop → Type 0 where
  calls : (e : Event) → CallsNext p s stood stands v w e → IsTold line None a b (noted node e)
      → CallsOnce p wants s stood stands node line v w a b (Ok true)
  is_over : p.asks v ≡ None → w ≡ v → ((h : List Event) → stood h → stands h) → b ≡ a
      → CallsOnce p wants s stood stands node line v w a b (Ok false)
  ends_called : (e : Event) (stop : Stop) → CallsNext p s stood stands v w e → IsTold line (Some stop) a b
      (noted node e)
      → CallsOnce p wants s stood stands node line v w a b (Err stop)
  wants_first : wants v → b ≡ a → CallsOnce p wants s stood stands node line v w a b (Err stops.OutOfMemory)
