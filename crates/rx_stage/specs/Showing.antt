-- What the run of a plan shows from line to line. The contracts of its functions cite this module.
use Rattle.std.specs.Prelude.{◌≡◌, ◌≤◌, ◌+◌, ◌&&◌, nat_le, nat_lt, ℕ, suc, Bool, false, true, List, [], Option, Result}
use Rattle.std.specs.Prelude.{Ok, Err}
use Rattle.rx_model.specs.declared.event.Noted.{Noted}
use Rattle.rx_model.specs.declared.names.Limits.{Limits}
use Rattle.rx_jobs.specs.Handlers.{Handlers}
use Rattle.rx_dispatch.specs.declared.dispatcher.Dispatcher.{Dispatcher}
use Rattle.rx_history.specs.Sides.{Node}
use Rattle.rx_joint.specs.Nodes.{NodesState, nodes_of}
use Rattle.rx_script.specs.declared.outcome.Outcome.{Outcome}
use Rattle.rx_script.specs.declared.outcome.Outcome.TheVariants as outcomes
use Rattle.rx_script.specs.declared.plan.Numbered.{Numbered}
use Rattle.rx_script.specs.declared.plan.PlanLine.{PlanLine}
use Rattle.rx_plan.specs.Follows.{CutOff, EndlessIn, Goes, Progress, RefusedAt, Went, Whole, adds, fits_limits}
use Rattle.rx_plan.specs.Follows.{made_node, slots_of}
use Rattle.rx_plan.specs.Lines.{line_part}
use Rattle.rx_plan.specs.Parts.{Came, To, Refused, Part, Then, ends}
use Rattle.rx_stage.specs.Ran.{Ran}
use Rattle.rx_stage.specs.Runs.{PutsAll, PutsBroken, PutsSome, Tells}
use Rattle.rx_stage.specs.Shown.{Shows, WorldState}
use Rattle.rx_plan.specs.Stages.{Stage}
use Rattle.rx_stage.specs.Tells.{Fails, Gains, Told, Wants}
use Rattle.rx_stage.specs.declared.runs.Running.{Running}
use Rattle.rx_plan.specs.declared.limits.TheConstants.{MAX_CLIENTS, MAX_SLOTS}
use Rattle.rx_stage.specs.declared.stop.Stop.{Stop}
use Rattle.rx_stage.specs.declared.stop.Stop.TheVariants as stops

-- ---- how a run ends

-- at a line with this number
abbrev pub ended_at : ℕ → Stop → Outcome
ended_at line (stops.Refused why) = outcomes.Refused line why
ended_at line stops.SinkFault = outcomes.SinkFault
ended_at line stops.OutOfMemory = outcomes.OutOfMemory
ended_at line stops.Endless = outcomes.OutOfMemory

-- whole, or otherwise
abbrev pub outcome_of : Result (Unit {0}) Outcome → Outcome
outcome_of (Ok whole) = outcomes.Ran
outcome_of (Err outcome) = outcome

-- ---- lines

-- a node can be made with these limits, where there are so many slots already
abbrev pub has_slots : Limits → ℕ → Bool
has_slots l slots = fits_limits l && nat_le (slots + l.slots) MAX_SLOTS

-- so can a client, where there are so many clients already
abbrev pub has_client_room : Limits → ℕ → ℕ → Bool
has_client_room l slots clients = has_slots l slots && nat_lt clients MAX_CLIENTS

-- one node more
abbrev pub node_part : Node → Progress → Part Progress
node_part n p = ends (made_node p (adds p.late n p.stage))

-- one line that makes no node
abbrev pub other_part : Handlers → PlanLine → Progress → Part Progress
other_part g line p =
    Then (line_part g p.place line p.stage)
    (λ s. ends (To (record { stage = s; late = true; place = suc p.place })))

-- ---- from line to line

-- these nodes and handlers, with nothing kept yet
abbrev pub started : NodesState → ℕ → Dispatcher → WorldState
started nodes service dispatcher = record {
  nodes = nodes;
  service = service;
  calls = [];
  accepted = [];
  packets = [];
  callers = [];
  dispatcher = dispatcher;
}

-- it shows the progress before the line at this place
pub record ShowsRun (r : Running) (at : ℕ) (p : Progress) : Type 0 where
  pub stage : Shows r.world p.stage
  pub late : p.late ≡ r.late
  pub place : p.place ≡ at

-- until a line makes no node, its slots are those of all nodes
abbrev pub IsCounted : Running → Type 0
IsCounted r = r.late ≡ false → (r.slots ≡ slots_of (nodes_of r.world.nodes)) × (r.slots ≤ MAX_SLOTS)

-- a run behind the line that makes the server; or none, for the cause of the line, or for want of memory
abbrev pub IsBegun : Came Stage → Result Running Stop → Type 0
IsBegun came (Ok r) =
    (s : Stage) × (came ≡ To s) × ShowsRun r 1 (record { stage = s; late = false; place = 1 }) × IsCounted r
IsBegun came (Err (stops.Refused why)) = came ≡ Refused why
IsBegun came (Err stops.SinkFault) = ⊥
IsBegun came (Err stops.OutOfMemory) = Unit {0}
IsBegun came (Err stops.Endless) = ⊥

-- from each progress before a line that is shown, the line was made, and the progress behind it is shown; or the run
-- ends as the line says
abbrev pub MakesLine : (Progress → Part Progress) → ℕ → Running → Running → Option Stop → Told → Told → Type 0
MakesLine part place old new stop a b =
    (p : Progress) → ShowsRun old place p → Ran (part p) (ShowsRun new (suc place)) stop a b

-- the same of a line that makes a node, of which nothing is told
abbrev pub AddsNode : Node → Running → Running → Option Stop → Type 0
AddsNode n old new stop = (place : ℕ) (t : Told) → MakesLine (node_part n) place old new stop t t

-- ---- all lines

-- what was told of lines that went so: all were made, and what they came to is shown; or the run ended in one of them
abbrev pub Ends : (Stage → Type 0) → Result (Unit {0}) Outcome → Went → Told → Told → List Noted → Type 0
Ends shows (Ok whole) (Whole s) a b es = shows s × Gains a b es
Ends shows (Err (outcomes.Refused line why)) (RefusedAt its cause) a b es = (line ≡ its) × (why ≡ cause) × Gains a b es
Ends shows (Err outcomes.SinkFault) CutOff a b es = Fails a b es
Ends shows (Err outcomes.OutOfMemory) CutOff a b es = Wants a b es
Ends shows (Err outcomes.OutOfMemory) EndlessIn a b es = Gains a b es
Ends shows _ _ a b es = ⊥

-- lines were made and told
pub record Made (g : Handlers) (ls : List Numbered) (p : Progress) (shows : Stage → Type 0)
    (result : Result (Unit {0}) Outcome) (a b : Told) : Type 0 where
  pub events : List Noted
  pub went : Went
  pub goes : Goes g ls p events went
  pub ends : Ends shows result went a b events

-- from each progress behind the first line that is shown, the lines behind it were made and told
abbrev pub MadeLines : Handlers → List Numbered → Running → Running → Result (Unit {0}) Outcome → Told → Told → Type 0
MadeLines g ls old new result a b = (p : Progress) → ShowsRun old 1 p → Made g ls p (Shows new.world) result a b

-- the lines of a plan behind its first were made, and all was told
pub record RunsOn (g : Handlers) (plan rest : List Numbered) (p : Progress) (outcome : Outcome) (a b : Told)
    : Type 0 where
  pub events : List Noted
  pub went : Went
  pub goes : Goes g rest p events went
  pub tells : Tells g plan outcome went a b events

-- ---- answer lines

-- these bytes were put, or some of them, by how the run ends
abbrev pub PutsBy : Result (Unit {0}) Outcome → Told → Told → List ℕ → Type 0
PutsBy (Ok whole) = PutsAll
PutsBy (Err outcomes.SinkFault) = PutsBroken
PutsBy (Err outcomes.OutOfMemory) = PutsSome
PutsBy (Err outcomes.Ran) = λ a b bytes. ⊥
PutsBy (Err (outcomes.Refused line why)) = λ a b bytes. ⊥
