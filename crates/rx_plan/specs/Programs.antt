-- Turns of a program on a node, as events of a run of a plan. Public clauses cite this module.
use Rattle.std.specs.Prelude.{ℕ, List}
use Rattle.rx_model.specs.declared.event.Noted.{Noted}
use Rattle.rx_events.specs.Joint.{IsAllowedAt}
use Rattle.rx_run.specs.Programs as run
use Rattle.rx_run.specs.Programs.{Stages}
use Rattle.rx_wire.specs.Turns.{Program, noted}
use Rattle.rx_plan.specs.Parts.{Came}
use Rattle.rx_plan.specs.Stages.{Stage, with_event}
pub use Rattle.rx_run.specs.Programs.{cut_there, goes, is_endless, is_over}

-- the stages of a plan: a step is an event of a node, as it is noted
abbrev pub plan_stages : Stages Stage Noted
plan_stages = record {
  may = λ s node e. IsAllowedAt s.nodes s.history node e;
  after = with_event;
  made = noted;
}

-- the events of a turn of a program on a node, from what it knows and a stage on
abbrev pub Turn : {View Ask : Type 0} → Program View Ask → ℕ → View → Stage → List Noted → Came (View × Stage) → Type 0
Turn p node v s = run.Turn plan_stages p node v s
