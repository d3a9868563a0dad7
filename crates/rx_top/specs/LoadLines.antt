-- What `load NUMBER CALLS` puts, by how it ended. Public clauses cite this module.
use Rattle.std.specs.Prelude.{◌≡◌, ◌⊎◌, ◌++◌, ℕ, List, [], codes, decimal, None}
use Rattle.rx_loader.specs.Loaded.{LoadKeeps, LoadIs}
use Rattle.rx_load.specs.declared.summary.Loaded.{Loaded}
use Rattle.rx_load.specs.declared.summary.Loaded.TheVariants as loads
use Rattle.rx_load.specs.declared.summary.Summary.{Summary}
use Rattle.rx_base.specs.Sink.{Gained, GainedSome}
use Rattle.rx_stage.specs.Tells.{Told, told}
use Rattle.rx_top.specs.declared.load.LoadOutcome.{LoadOutcome}
use Rattle.rx_top.specs.declared.load.LoadOutcome.TheVariants as outcomes
use Rattle.rx_top.specs.declared.status.Status.{Status}
use Rattle.rx_top.specs.declared.status.Status.TheVariants as statuses
use Rattle.rx_top.specs.Endings.{memory_text, unwritten_text}

-- a count with its name before it
abbrev pub counted : List ℕ → ℕ → List ℕ
counted name count = name ++ decimal count

-- the line of the calls of a load
abbrev pub calls_line : Summary → List ℕ
calls_line s =
    counted (codes "calls ") s.calls ++ counted (codes " ok ") s.ok ++ counted (codes " abort ") s.aborted
    ++ counted (codes " dead ") s.dead ++ counted (codes " open ") s.unended ++ codes "\n"

-- the line of its rounds, and of the datagrams that were given in them
abbrev pub rounds_line : Summary → List ℕ
rounds_line s =
    counted (codes "rounds ") s.rounds ++ counted (codes " given ") s.given ++ counted (codes " lost ") s.lost
    ++ counted (codes " repeated ") s.repeated ++ counted (codes " held ") s.held ++ codes "\n"

-- the two lines of what became of a load
abbrev pub summary_text : Summary → List ℕ
summary_text s = calls_line s ++ rounds_line s

-- a load was made and noted, which keeps its promises
pub record MakesLoad (number calls : ℕ) (loaded : Loaded) (before after : Told) : Type 0 where
  pub load : LoadIs number calls loaded (told before.noted None 0) (told after.noted None 0)
  pub promises : LoadKeeps number calls loaded (told before.noted None 0) (told after.noted None 0)

-- a load was made whole, and this is its text
pub record HasText (number calls : ℕ) (before after : Told) (text : List ℕ) : Type 0 where
  pub summary : Summary
  pub makes : MakesLoad number calls (loads.Ran summary) before after
  pub is : text ≡ summary_text summary

-- what `load` of so many calls does, by how it ended
abbrev pub LoadPuts : ℕ → ℕ → LoadOutcome → Told → Told → Type 0
LoadPuts number calls outcomes.Put before after =
    (text : List ℕ) × HasText number calls before after text × Gained before.put after.put text
LoadPuts number calls outcomes.SinkFault before after =
    (text : List ℕ) × HasText number calls before after text × GainedSome before.put after.put text
LoadPuts number calls outcomes.OutOfMemory before after =
    ((loaded : Loaded) × MakesLoad number calls loaded before after) × (after.put ≡ before.put)

-- what `load` does; or memory was wanted before, and nothing was told
abbrev pub LoadDoes : LoadOutcome → ℕ → ℕ → Told → Told → Type 0
LoadDoes outcome number calls before after =
    ((outcome ≡ outcomes.OutOfMemory) × (after ≡ before)) ⊎ LoadPuts number calls outcome before after

-- how the program ends, by how `load` ended
abbrev pub load_status : LoadOutcome → Status
load_status outcomes.Put = statuses.Ok
load_status outcomes.SinkFault = statuses.SinkFault
load_status outcomes.OutOfMemory = statuses.Memory

-- what `load` says of how it ended
abbrev pub load_said : LoadOutcome → List ℕ
load_said outcomes.Put = []
load_said outcomes.SinkFault = unwritten_text
load_said outcomes.OutOfMemory = memory_text

-- what the program leaves of it: the status of how it ended, and the line of that said
abbrev pub LoadLeaves : Status → ℕ → ℕ → Told → Told → (List ℕ → Type 0) → Type 0
LoadLeaves status number calls before after IsSaid =
    (outcome : LoadOutcome) × (status ≡ load_status outcome) × LoadDoes outcome number calls before after
    × IsSaid (load_said outcome)
