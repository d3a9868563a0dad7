-- What a load makes and notes, by how it ended. Public clauses cite this module.
use Rattle.std.specs.Prelude.{◌≡◌, ℕ, List, Result, Ok, Err, reverse}
use Rattle.rx_model.specs.declared.event.Noted.{Noted}
use Rattle.rx_law.specs.Worlds.{World}
use Rattle.rx_load.specs.Keeping.{LoadPromises}
use Rattle.rx_load.specs.Loads.{Load, load_nodes, load_part}
use Rattle.rx_load.specs.Saying.{SaidOf}
use Rattle.rx_load.specs.Summing.{summary_of}
use Rattle.rx_load.specs.declared.summary.Loaded.{Loaded}
use Rattle.rx_load.specs.declared.summary.Loaded.TheVariants as loads
use Rattle.rx_load.specs.declared.summary.Summary.{Summary}
use Rattle.rx_plan.specs.Parts.{Came, Cut, Endless, Refused, To}
use Rattle.rx_stage.specs.Tells.{Gains, Told, Wants}
use Rattle.rx_stage.specs.declared.stop.Stop.{Stop}

-- how a load ended
abbrev pub loaded_of : Result Summary Stop → Loaded
loaded_of (Ok summary) = loads.Ran summary
loaded_of (Err stop) = loads.OutOfMemory

-- what was noted, by how the load ended and what it came to: all its events, and its Summary is that of what it came
-- to; or it is out of memory where memory was wanted, or where a polling or a turn has no end
abbrev pub LoadTells : ℕ → Loaded → Came Load → Told → Told → List Noted → Type 0
LoadTells calls (loads.Ran summary) (To l) old new es = (summary ≡ summary_of calls l) × Gains old new es
LoadTells calls (loads.Ran summary) (Refused why) old new es = ⊥
LoadTells calls (loads.Ran summary) Cut old new es = ⊥
LoadTells calls (loads.Ran summary) Endless old new es = ⊥
LoadTells calls loads.OutOfMemory (To l) old new es = ⊥
LoadTells calls loads.OutOfMemory (Refused why) old new es = ⊥
LoadTells calls loads.OutOfMemory Cut old new es = Wants old new es
LoadTells calls loads.OutOfMemory Endless old new es = Gains old new es

-- the events of a load of so many calls, in order and no others, were made and noted
pub record LoadIs (number calls : ℕ) (loaded : Loaded) (old new : Told) : Type 0 where
  pub events : List Noted
  pub came : Came Load
  pub made : load_part number calls events came
  pub tells : LoadTells calls loaded came old new events

-- the events that a load made and noted are those of a world, in which the network invents nothing; they are promised
-- so at each moment; and the numbers of what the load came to are those of their history
abbrev pub LoadKeeps : ℕ → ℕ → Loaded → Told → Told → Type 0
LoadKeeps number calls loaded old new =
    (r : LoadIs number calls loaded old new)
    → World load_nodes (reverse r.events) × LoadPromises r.events × SaidOf (reverse r.events) r.came
