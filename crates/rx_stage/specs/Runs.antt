-- What the run of a plan makes and tells, by how it ended. Public clauses cite this module.
use Rattle.std.specs.Prelude.{◌≡◌, ℕ, List, All}
use Rattle.rx_base.specs.Sink.{Gained, GainedSome, HasRisen}
use Rattle.rx_model.specs.declared.event.Noted.{Noted}
use Rattle.rx_jobs.specs.Handlers.{Handlers}
use Rattle.rx_script.specs.declared.outcome.Outcome.{Outcome}
use Rattle.rx_script.specs.declared.outcome.Outcome.TheVariants as outcomes
use Rattle.rx_script.specs.declared.plan.Numbered.{Numbered}
use Rattle.rx_plan.specs.Answers.{answer_lines}
use Rattle.rx_plan.specs.Follows.{CutOff, Empty, EndlessIn, RefusedAt, Went, Whole, plan_goes}
use Rattle.rx_model.specs.Telling.{IsToldNoted}
use Rattle.rx_plan.specs.Promises.{Promises}
use Rattle.rx_stage.specs.Tells.{Fails, Gains, Told, Wants}

-- ---- answers

-- no event is noted, and these bytes are put whole
pub record PutsAll (before after : Told) (bytes : List ℕ) : Type 0 where
  pub noted : after.noted ≡ before.noted
  pub put : Gained before.put after.put bytes
  pub faults : after.faults ≡ before.faults

-- no event is noted, and the first of these bytes are put, or none: memory was wanted
pub record PutsSome (before after : Told) (bytes : List ℕ) : Type 0 where
  pub noted : after.noted ≡ before.noted
  pub put : GainedSome before.put after.put bytes
  pub faults : after.faults ≡ before.faults

-- the same where the sink failed
pub record PutsBroken (before after : Told) (bytes : List ℕ) : Type 0 where
  pub noted : after.noted ≡ before.noted
  pub put : GainedSome before.put after.put bytes
  pub faults : HasRisen before.faults after.faults

-- all events were made and told, and then this was done with the answer lines
pub record Answers (before after : Told) (es : List Noted) (bytes : List ℕ) (Puts : Told → Told → List ℕ → Type 0)
    : Type 0 where
  pub between : Told
  pub told : Gains before between es
  pub puts : Puts between after bytes

-- ---- a run

-- what was told, by how the run ended and how its lines went: whole; at a refused line; or cut off, maybe as its answer
-- lines were put; it is out of memory where memory was wanted, or where a polling or a turn has no end
abbrev pub Tells : Handlers → List Numbered → Outcome → Went → Told → Told → List Noted → Type 0
Tells g ls outcomes.Ran (Whole s) old new es = Answers old new es (answer_lines g.types g.procs ls s.callers) PutsAll
Tells g ls outcomes.Ran Empty old new es = Gains old new es
Tells g ls (outcomes.Refused line why) (RefusedAt its cause) old new es =
    (line ≡ its) × (why ≡ cause) × Gains old new es
Tells g ls outcomes.SinkFault (Whole s) old new es =
    Answers old new es (answer_lines g.types g.procs ls s.callers) PutsBroken
Tells g ls outcomes.SinkFault CutOff old new es = Fails old new es
Tells g ls outcomes.OutOfMemory (Whole s) old new es =
    Answers old new es (answer_lines g.types g.procs ls s.callers) PutsSome
Tells g ls outcomes.OutOfMemory CutOff old new es = Wants old new es
Tells g ls outcomes.OutOfMemory EndlessIn old new es = Gains old new es
Tells g ls _ _ old new es = ⊥

-- the events of a plan's lines, in order and no others, were made and told
pub record RunIs (g : Handlers) (ls : List Numbered) (outcome : Outcome) (old new : Told) : Type 0 where
  pub events : List Noted
  pub went : Went
  pub goes : plan_goes g ls events went
  pub tells : Tells g ls outcome went old new events

-- the events that a run made and told are promised so, and each is one that its line tells: no other events have their
-- text
abbrev pub KeepsPromises : Handlers → List Numbered → Outcome → Told → Told → Type 0
KeepsPromises g ls outcome old new =
    (r : RunIs g ls outcome old new) → Promises ls r.events × All IsToldNoted r.events
