-- What a part of a run of a plan makes: a list of events, the first one first, and what it comes to. It is a part of
-- `rx_run` whose steps are events as they are noted, and which a refusal ends. Public clauses cite this module.
use Rattle.std.specs.Prelude.{ℕ, List}
use Rattle.rx_model.specs.declared.event.Event.{Event}
use Rattle.rx_model.specs.declared.event.Noted.{Noted}
use Rattle.rx_run.specs.Parts as run
use Rattle.rx_script.specs.declared.outcome.PlanWhy.{PlanWhy}
use Rattle.rx_wire.specs.Turns.{noted}
pub use Rattle.rx_run.specs.Parts.{To, Ended as Refused, Cut, Endless, Then, by_test, each, ends, goes_on}
pub use Rattle.rx_run.specs.Parts.{cut_behind, makes, not_made}

-- what a part came to: something, a refusal, or nothing where the sink failed or memory was wanted, or where it has no
-- end
abbrev pub Came : Type 0 → Type 0
Came A = run.Came PlanWhy A

-- the events that a part may make, with what it then comes to
abbrev pub Part : Type 0 → Type 1
Part A = run.Part Noted PlanWhy A

-- one event of a node; a run may end before it, or behind it
abbrev pub One : ℕ → (Event → Type 0) → List Noted → Came Event → Type 0
One node is = run.One (noted node) is
