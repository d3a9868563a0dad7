-- What a run tells: the journal of its events, and the text of its trace. Public clauses cite this module.
use Rattle.std.specs.Prelude.{◌≡◌, ◌⊎◌, ℕ, List, [], ◌∷◌, ◌++◌, Option, Some, None}
use Rattle.rx_base.specs.Sink.{Gained, GainedSome, HasRisen}
use Rattle.rx_model.specs.declared.event.Noted.{Noted}
use Rattle.rx_model.specs.Telling.{FitsEvent, IsWord}
use Rattle.rx_model.specs.Text.{line_of, node_name}
use Rattle.rx_run.specs.Tells as run
use Rattle.rx_run.specs.Tells.{Telling}
use Rattle.rx_wire.specs.Journal.{HasNoted}
use Rattle.rx_stage.specs.declared.stop.Stop.{Stop}
use Rattle.rx_stage.specs.declared.stop.Stop.TheVariants as stops
pub use Rattle.rx_run.specs.Tells.{gains_none, gains_one, wants_more, wants_last, wants_one, fails_last, fails_one}

-- what a journal and a sink tell: the events noted, the bytes put, and how many puts failed
pub record Told : Type 0 where
  pub noted : Option (List Noted)
  pub put : Option (List ℕ)
  pub faults : ℕ

-- the same from both
abbrev pub told : Option (List Noted) → Option (List ℕ) → ℕ → Told
told noted put faults = record { noted = noted; put = put; faults = faults }

-- the line of an event, with its line feed
abbrev pub event_line : Noted → List ℕ
event_line n = line_of (node_name n.node) n.event ++ 10 ∷ []

-- each number of an event fits its field, and so does that of its node
pub record FitsNoted (n : Noted) : Type 0 where
  pub node : IsWord n.node
  pub event : FitsEvent n.event

-- an event was noted, and its line put whole
pub record GainsOne (before after : Told) (n : Noted) : Type 0 where
  pub fits : FitsNoted n
  pub noted : HasNoted before.noted after.noted n
  pub put : Gained before.put after.put (event_line n)
  pub faults : after.faults ≡ before.faults

-- memory was wanted for its note, or for its line
pub record WantsOne (before after : Told) (n : Noted) : Type 0 where
  pub fits : FitsNoted n
  pub noted : HasNoted before.noted after.noted n ⊎ (after.noted ≡ before.noted)
  pub put : after.put ≡ before.put
  pub faults : after.faults ≡ before.faults

-- it was noted, and the sink failed at its line
pub record FailsOne (before after : Told) (n : Noted) : Type 0 where
  pub fits : FitsNoted n
  pub noted : HasNoted before.noted after.noted n
  pub put : GainedSome before.put after.put (event_line n)
  pub faults : HasRisen before.faults after.faults

-- how a run of a plan tells its events
abbrev pub plan_telling : Telling Told Noted
plan_telling = record { whole = GainsOne; wants = WantsOne; fails = FailsOne }

-- each of these events was noted, and its line put
abbrev pub Gains : Told → Told → List Noted → Type 0
Gains = run.Gains plan_telling

-- each of them, but that memory was wanted at the last one, or behind it
abbrev pub Wants : Told → Told → List Noted → Type 0
Wants = run.Wants plan_telling

-- each of them, but that the sink failed at the last one's line
abbrev pub Fails : Told → Told → List Noted → Type 0
Fails = run.Fails plan_telling

-- what was told of one event, by why a run ends with it, if it does
abbrev pub IsTold : Option Stop → Told → Told → Noted → Type 0
IsTold None before after n = GainsOne before after n
IsTold (Some stops.OutOfMemory) before after n = WantsOne before after n
IsTold (Some stops.SinkFault) before after n = FailsOne before after n
IsTold (Some stops.Endless) before after n = ⊥
IsTold (Some (stops.Refused why)) before after n = ⊥
