-- What was made of a part of a run over nodes, and told. Public clauses cite this module.
use Rattle.std.specs.Prelude.{◌≡◌, ℕ, List, [], ◌∷◌, ◌++◌, Option, Some, None, Result, Ok, Err}
use Rattle.rx_model.specs.declared.event.Noted.{Noted}
use Rattle.rx_run.specs.Parts.{Came, To, Ended, Cut, Endless, Part}
use Rattle.rx_run.specs.Tells.{Gains}
use Rattle.rx_drive.specs.Tells.{Breaks, EndsTold, Step, Told, telling}
use Rattle.rx_drive.specs.declared.stop.Stop.{Stop}
use Rattle.rx_drive.specs.declared.stop.Stop.TheVariants as stops

-- why a part ends of its own: a call of the wire failed, or what is next wants memory
pub data Fault : Type 0 where
  wire_failed : Fault
  wants_memory : Fault

-- why a result ends a run, if it does
abbrev pub stop_of : {X : Type 0} → Result X Stop → Option Stop
stop_of (Ok x) = None
stop_of (Err stop) = Some stop

-- all these steps but the last one were told whole, and the last one so
pub record ButLast (line : Noted → List ℕ) (stop : Stop) (a b : Told) (ss : List Step) : Type 0 where
  pub early : List Step
  pub last : Step
  pub between : Told
  pub are : ss ≡ early ++ last ∷ []
  pub told : Gains (telling line) a between early
  pub ends : EndsTold line stop between b last

-- what was come to, how the run goes on, and what was told of the steps
pub data Fits {A : Type 0} (line : Noted → List ℕ) (shows : A → Type 0)
    : Came Fault A → Option Stop → Told → Told → List Step → Type 0 where
  fits_to : (a : A) (old new : Told) (ss : List Step) → shows a → Gains (telling line) old new ss
      → Fits line shows (To a) None old new ss
  fits_failed : (old mid new : Told) (ss : List Step) → Gains (telling line) old mid ss → Breaks mid new
      → Fits line shows (Ended wire_failed) (Some stops.WireFault) old new ss
  fits_wants : (old new : Told) (ss : List Step) → Gains (telling line) old new ss
      → Fits line shows (Ended wants_memory) (Some stops.OutOfMemory) old new ss
  fits_last : (stop : Stop) (old new : Told) (ss : List Step) → ButLast line stop old new ss
      → Fits line shows Cut (Some stop) old new ss
  fits_endless : (old new : Told) (ss : List Step) → Gains (telling line) old new ss
      → Fits line shows Endless (Some stops.Endless) old new ss

-- steps that the part may make were made and told, and what it came to is shown; or the run ends as the part says
pub record Ran {A : Type 0} (line : Noted → List ℕ) (part : Part Step Fault A) (shows : A → Type 0)
    (stop : Option Stop) (old new : Told) : Type 0 where
  pub steps : List Step
  pub came : Came Fault A
  pub made : part steps came
  pub fits : Fits line shows came stop old new steps
