-- What `serve` does and leaves, by how it ended. Public clauses cite this module.
use Rattle.std.specs.Prelude.{◌≡◌, ◌⊎◌, ◌≤◌, ◌^◌, ℕ, Bool, true, List, Some, Result, Ok, Err, IsSomeAnd}
use Rattle.rx_jumbo.specs.declared.sizes.TheConstants.{JUMBO_PARTS}
use Rattle.rx_rules.specs.Classes.{Class}
use Rattle.rx_rules.specs.Setup.{FitsLimits}
use Rattle.rx_wire_loop.specs.declared.serving.ServeEnd.{ServeEnd}
use Rattle.rx_wire_loop.specs.declared.serving.ServeEnd.TheVariants as serve_ends
use Rattle.rx_wire_loop.specs.declared.serving.Serving.{Serving}
use Rattle.rx_drive.specs.declared.stop.Stop.{Stop}
use Rattle.rx_drive.specs.declared.stop.Stop.TheVariants as stops
use Rattle.rx_wire_loop.specs.Serving.{ServeIs, server_setup, terms_of}
use Rattle.rx_wire_loop.specs.Tells.{Told}
use Rattle.rx_script.specs.Saying.{Answering}
use Rattle.xg_check.specs.Meaning.{Meant}
use Rattle.xg_compile.specs.Means.{Means}
use Rattle.rx_words.specs.declared.command.ServeFiles.{ServeFiles}
use Rattle.rx_top.specs.declared.status.Status.{Status}
use Rattle.rx_top.specs.declared.wire_outcome.WireOutcome.{WireOutcome}
use Rattle.rx_top.specs.declared.wire_outcome.WireOutcome.TheVariants as outcomes
use Rattle.rx_top.specs.Inputs.{BadScript, BadXg, Gives, ReadNone, Reads, behind, script_given}
use Rattle.rx_top.specs.Sims.{handlers_with}
use Rattle.rx_top.specs.Wires.{EndsAtInput, EndsAtKey, IsClass, wire_said, wire_status}

-- a server can be set up with these words
pub record CanServe (w : Serving) : Type 0 where
  pub limits : FitsLimits w.limits
  pub some : 1 ≤ w.jumbo
  pub few : w.jumbo ≤ JUMBO_PARTS
  pub span : w.span ≤ 2 ^ 40

-- how `serve` ends, by how serving with so many takes at most ended: out of memory too where there was none for a line,
-- and where a polling or a turn has no end
abbrev pub EndsByServing : ℕ → Result ServeEnd Stop → WireOutcome → Type 0
EndsByServing turns (Ok serve_ends.TimeUp) outcome = outcome ≡ outcomes.Done
EndsByServing turns (Ok serve_ends.TurnsSpent) outcome = outcome ≡ outcomes.TurnsSpent turns
EndsByServing turns (Err stops.SinkFault) outcome = outcome ≡ outcomes.SinkFault
EndsByServing turns (Err stops.WireFault) outcome = outcome ≡ outcomes.WireFault
EndsByServing turns (Err stops.OutOfMemory) outcome = outcome ≡ outcomes.OutOfMemory
EndsByServing turns (Err stops.Unformatted) outcome = outcome ≡ outcomes.OutOfMemory
EndsByServing turns (Err stops.Unnoted) outcome = outcome ≡ outcomes.Unnoted
EndsByServing turns (Err stops.Endless) outcome = outcome ≡ outcomes.OutOfMemory

-- over an interface, a script and a class, a node was served as the words say, and `serve` ended as that did
pub record ServesNode (m : Meant) (s : List Answering) (class : Class) (w : Serving) (outcome : WireOutcome)
    (before after : Told) : Type 0 where
  pub result : Result ServeEnd Stop
  pub is : EndsByServing w.turns result outcome
  pub serves : ServeIs (terms_of w (handlers_with m s)) (server_setup w class) w.at result before after

-- over an interface and a script, `serve` ends at the key file, and nothing was told; or it went on with the class
abbrev pub ServesAtKey : Meant → List Answering → ServeFiles → Serving → WireOutcome → Reads → Told → Told → Type 0
ServesAtKey m s names w outcome r before after =
    (IsSomeAnd names.key (λ name. EndsAtKey outcome name r) × (after ≡ before))
    ⊎ ((class : Class) × IsClass r.contents names.key class × ReadNone (behind names.key r)
    × ServesNode m s class w outcome before after)

-- over an interface, it ends at the script's file, and nothing was told; or it went on with the script
abbrev pub ServesAtScript : Meant → ServeFiles → Serving → WireOutcome → Reads → Told → Told → Type 0
ServesAtScript m names w outcome r before after =
    (EndsAtInput outcome names.script (BadScript m) r × (after ≡ before))
    ⊎ ((s : List Answering) × Gives r.contents names.script (λ text. script_given m text ≡ Ok s)
    × ServesAtKey m s names w outcome (behind (Some names.script) r) before after)

-- it ends at the interface's file, and nothing was told; or it went on with the interface
abbrev pub ServesAtXg : ServeFiles → Serving → WireOutcome → Reads → Told → Told → Type 0
ServesAtXg names w outcome r before after =
    (EndsAtInput outcome names.xg BadXg r × (after ≡ before))
    ⊎ ((m : Meant) × Gives r.contents names.xg (λ text. Means text m)
    × ServesAtScript m names w outcome (behind (Some names.xg) r) before after)

-- what `serve` does: the files are read in the order interface, script, key, each once and checked before the next; or
-- memory was wanted before
abbrev pub ServesByFiles : WireOutcome → ServeFiles → Serving → Reads → Told → Told → Type 0
ServesByFiles outcome names w r before after =
    ((outcome ≡ outcomes.OutOfMemory) × ReadNone r × (after ≡ before)) ⊎ ServesAtXg names w outcome r before after

-- what the program leaves of it: the status of how it ended, and the line of that said; and only a journal that may
-- want memory refused a note
abbrev pub ServeLeaves : Status → ServeFiles → Serving → Reads → Told → Told → Bool → (List ℕ → Type 0) → Type 0
ServeLeaves status names w r before after may_want IsSaid =
    (outcome : WireOutcome) × (status ≡ wire_status outcome) × ServesByFiles outcome names w r before after
    × (outcome ≡ outcomes.Unnoted → may_want ≡ true) × IsSaid (wire_said outcome)
