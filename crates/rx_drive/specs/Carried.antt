-- Polls of a node, with what becomes of each datagram: it is kept, or carried to a wire. Public clauses cite this
-- module.
use Rattle.std.specs.Prelude.{◌≡◌, ◌≤◌, ◌-◌, ◌^◌, ◌⊎◌, ℕ, Bool, true, false, List, [], ◌∷◌, ◌++◌, length, Option, Some}
use Rattle.std.specs.Prelude.{None, Result, Ok, Err, if◌then◌else◌}
use Rattle.rx_events.specs.Events.{IsPolled}
use Rattle.rx_model.specs.declared.event.Event.{Event}
use Rattle.rx_model.specs.declared.event.Event.TheVariants as events
use Rattle.rx_model.specs.declared.event.Noted.{Noted}
use Rattle.rx_model.specs.declared.names.Host.{Host}
use Rattle.rx_rules.specs.Rules.{Legal}
use Rattle.rx_rules.specs.Setup.{Setup}
use Rattle.rx_run.specs.Parts.{To, Ended, Cut, Endless, Part}
use Rattle.rx_run.specs.Programs.{IsNext, Stages}
use Rattle.rx_wire.specs.Wire.{Logged}
use Rattle.rx_wire.specs.Turns.{Program, noted}
use Rattle.rx_drive.specs.Nodes.{Answers}
use Rattle.rx_drive.specs.Ran.{Fault, wants_memory, wire_failed}
use Rattle.rx_drive.specs.Tells.{Breaks, GainedMuch, IsTold, Step, Told, entries_of, logs, made_of}
use Rattle.rx_drive.specs.declared.stop.Stop.{Stop}
use Rattle.rx_drive.specs.declared.stop.Stop.TheVariants as stops

-- a datagram with the host that it is for
abbrev pub Given : Type 0
Given = Host × List ℕ

-- ---- programs on a node

-- the steps of a turn of a program that goes on: from what was known at one stage to what is known at another
pub data Onto {S Step View Ask : Type 0} (st : Stages S Step) (p : Program View Ask) (node : ℕ)
    : View → S → List Step → View → S → Type 0 where
  here : (v : View) (s : S) → Onto st p node v s [] v s
  onward : (v : View) (s : S) (a : Ask) (e : Event) (es : List Step) (w : View) (u : S)
      → p.asks v ≡ Some a → IsNext st s node (p.is a) e → Onto st p node (p.heard v e) (st.after node e s) es w u
      → Onto st p node v s (st.made node e ∷ es) w u

-- what polls of a node came to: whether it is polled again, and what was given so far, in order
pub record Polling : Type 0 where
  pub again : Bool
  pub given : List Given

-- behind a poll that gave something or nothing
abbrev pub polled : Option Given → Polling → Polling
polled None v = record v { again = false }
polled (Some d) v = record v { given = v.given ++ d ∷ [] }

-- behind an event
abbrev pub heard_poll : Polling → Event → Polling
heard_poll v (events.Polled got) = polled got v
heard_poll v _ = record v { again = false }

-- a node is polled until none is due
abbrev pub polling : Program Polling (Unit {0})
polling = record { asks = λ v. if v.again then Some tt else None; is = λ a. IsPolled; heard = heard_poll }

-- polled again, and nothing was given yet
abbrev pub begin : Polling
begin = record { again = true; given = [] }

-- ---- what becomes of datagrams

-- what carries datagrams: from one state of it to another by these datagrams, with these entries in the log; which
-- entries the log has where it may have carried some of them; and which where it failed at them, and why
pub record Carrying (K : Type 0) : Type 1 where
  pub carried : K → K → List Given → List Logged → Type 0
  pub some : K → List Given → List Logged → Type 0
  pub lost : Fault → K → List Given → List Logged → Type 0

-- a datagram was carried; or memory was wanted, or a call of the wire failed
abbrev pub Carries : {K : Type 0} → Carrying K → K → K → Given → Told → Told → Option Stop → Type 0
Carries c old new d a b None = (ls : List Logged) × c.carried old new (d ∷ []) ls × GainedMuch a b (logs ls)
Carries c old new d a b (Some stops.OutOfMemory) =
    (ls : List Logged) × c.lost wants_memory old (d ∷ []) ls × GainedMuch a b (logs ls)
Carries c old new d a b (Some stops.WireFault) =
    (ls : List Logged) × (mid : Told) × c.lost wire_failed old (d ∷ []) ls × GainedMuch a mid (logs ls) × Breaks mid b
Carries c old new d a b (Some stops.SinkFault) = ⊥
Carries c old new d a b (Some stops.Unformatted) = ⊥
Carries c old new d a b (Some stops.Unnoted) = ⊥
Carries c old new d a b (Some stops.Endless) = ⊥

-- any datagram can be carried; or each that a node so set up may give, and the node stands for some history
abbrev pub CanCarry : Setup → (List Event → Type 0) → (Given → Type 0) → Type 0
CanCarry s stands can =
    ((d : Given) → can d)
    ⊎ (((h : List Event) × stands h)
    × ((h : List Event) (d : Given) → Legal s (events.Polled (Some d) ∷ h) → can d))

-- ---- polls

-- polls of a node that may go on, of which what was given and the entries of the log are so
abbrev pub Begun : {S : Type 0} → Stages S Step → ℕ → S → List Step → (List Given → List Logged → Type 0) → Type 0
Begun {S} st node s ss so =
    (v : Polling) × (u : S) × Onto st polling node begin s (made_of ss) v u × so v.given (entries_of ss)

-- a node is polled until none is due, and what carries goes from one state to another by all that it gives; 2^64 - 1
-- polls or more may count as endless
abbrev pub polls_carried : {S K : Type 0} → Stages S Step → Carrying K → ℕ → K → K → S → Part Step Fault S
polls_carried st c node k m s ss (To u) =
    (v : Polling) × Onto st polling node begin s (made_of ss) v u × (v.again ≡ false)
    × c.carried k m v.given (entries_of ss)
polls_carried st c node k m s ss (Ended why) = Begun st node s ss (c.lost why k)
polls_carried st c node k m s ss Cut = Begun st node s ss (c.some k)
polls_carried st c node k m s ss Endless =
    Begun st node s ss (c.carried k m) × (2 ^ 64 - 1 ≤ length (made_of ss))

-- a poll of a node gave a datagram: it was told, and carried; or the run ended as it was told; or behind that, as it
-- was to be carried
pub data PassesOn {K : Type 0} (c : Carrying K) (node : ℕ) (line : Noted → List ℕ) (d : Given) (k l : K) (a b : Told)
    : Result Bool Stop → Type 0 where
  passes : (mid : Told) → IsTold line None a mid (noted node (events.Polled (Some d))) → Carries c k l d mid b None
      → PassesOn c node line d k l a b (Ok true)
  ends_told : (stop : Stop) → IsTold line (Some stop) a b (noted node (events.Polled (Some d)))
      → PassesOn c node line d k l a b (Err stop)
  ends_carried : (stop : Stop) (mid : Told) → IsTold line None a mid (noted node (events.Polled (Some d)))
      → Carries c k l d mid b (Some stop) → PassesOn c node line d k l a b (Err stop)

-- how one poll of a node went: it gave nothing, and that was told, or the run ended as it was; or it gave something
pub data PollsOnce {K : Type 0} (s : Setup) (stood stands : List Event → Type 0) (c : Carrying K) (node : ℕ)
    (line : Noted → List ℕ) (k l : K) (a b : Told) : Result Bool Stop → Type 0 where
  gave_none : Answers s stood stands (events.Polled None) → IsTold line None a b (noted node (events.Polled None))
      → l ≡ k → PollsOnce s stood stands c node line k l a b (Ok false)
  ends_none : (stop : Stop) → Answers s stood stands (events.Polled None)
      → IsTold line (Some stop) a b (noted node (events.Polled None))
      → PollsOnce s stood stands c node line k l a b (Err stop)
  gave_some : (d : Given) (result : Result Bool Stop) → Answers s stood stands (events.Polled (Some d))
      → PassesOn c node line d k l a b result → PollsOnce s stood stands c node line k l a b result
