-- What was made of a part of a run, and told. Public clauses cite this module.
use Rattle.std.specs.Prelude.{List, Option, Some, None, Result, Ok, Err}
use Rattle.rx_model.specs.declared.event.Noted.{Noted}
use Rattle.rx_script.specs.declared.outcome.PlanWhy.{PlanWhy}
use Rattle.rx_plan.specs.Parts.{Came, To, Refused, Cut, Endless, Part}
use Rattle.rx_stage.specs.Tells.{Fails, Gains, Told, Wants}
use Rattle.rx_stage.specs.declared.stop.Stop.{Stop}
use Rattle.rx_stage.specs.declared.stop.Stop.TheVariants as stops

-- why a result ends a run, if it does
abbrev pub stop_of : {T : Type 0} → Result T Stop → Option Stop
stop_of (Ok t) = None
stop_of (Err stop) = Some stop

-- what was come to, how the run goes on, and what was told of the events
pub data Fits {A : Type 0} (shows : A → Type 0) : Came A → Option Stop → Told → Told → List Noted → Type 0 where
  fits_to : (a : A) (old new : Told) (es : List Noted) → shows a → Gains old new es → Fits shows (To a) None old new es
  fits_refused : (why : PlanWhy) (old new : Told) (es : List Noted) → Gains old new es
      → Fits shows (Refused why) (Some (stops.Refused why)) old new es
  fits_wants : (old new : Told) (es : List Noted) → Wants old new es
      → Fits shows Cut (Some stops.OutOfMemory) old new es
  fits_fails : (old new : Told) (es : List Noted) → Fails old new es → Fits shows Cut (Some stops.SinkFault) old new es
  fits_endless : (old new : Told) (es : List Noted) → Gains old new es
      → Fits shows Endless (Some stops.Endless) old new es

-- events that the part may make were made and told, and what it came to is shown; or the run ends as the part says
pub record Ran {A : Type 0} (part : Part A) (shows : A → Type 0) (stop : Option Stop) (old new : Told) : Type 0 where
  pub events : List Noted
  pub came : Came A
  pub made : part events came
  pub fits : Fits shows came stop old new events
