-- What a run keeps, and the stages that it shows. Public clauses cite this module.
use Rattle.std.specs.Prelude.{◌≡◌, ◌<◌, ◌^◌, ℕ, List, length, Option, slice_get}
use Rattle.rx_model.specs.declared.event.Noted.{Noted}
use Rattle.rx_model.specs.declared.names.CallName.{CallName}
use Rattle.rx_jobs.specs.Jobs.{JobState}
use Rattle.rx_dispatch.specs.States.{state_of}
use Rattle.rx_dispatch.specs.declared.dispatcher.Dispatcher.{Dispatcher}
use Rattle.rx_law.specs.Worlds.{AreOf, Datagram}
use Rattle.rx_joint.specs.Nodes.{NodesState, Standing, nodes_of}
use Rattle.rx_script.specs.Saying.{Answering}
use Rattle.rx_plan.specs.declared.call.ClientCall.{ClientCall}
use Rattle.rx_plan.specs.Parts.{Part}
use Rattle.rx_plan.specs.Stages.{InvokedState, Stage, service_of}
use Rattle.rx_stage.specs.Ran.{Ran}
use Rattle.rx_stage.specs.Tells.{Told}
use Rattle.rx_stage.specs.declared.stop.Stop.{Stop}

-- its nodes as they are, the server's service, and the rest of a stage but for the history, which it doesn't keep; its
-- jobs are the dispatcher's
pub record WorldState : Type 0 where
  pub nodes : NodesState
  pub service : ℕ
  pub calls : List ClientCall
  pub accepted : List CallName
  pub packets : List Datagram
  pub callers : List InvokedState
  pub dispatcher : Dispatcher

-- the jobs of its dispatcher
abbrev pub jobs_of : WorldState → List JobState
jobs_of w = (state_of w.dispatcher).round.jobs

-- the script that its handlers serve
abbrev pub script_of : WorldState → List Answering
script_of w = (state_of w.dispatcher).script

-- that stage behind a joint history
abbrev pub stage_of : WorldState → List Noted → Stage
stage_of w h = record {
  nodes = nodes_of w.nodes;
  history = h;
  calls = w.calls;
  accepted = w.accepted;
  packets = w.packets;
  callers = w.callers;
  jobs = jobs_of w;
}

-- what is kept is that of a stage; the nodes stand for its history, which is one of theirs; and each has a number
pub record Shows (w : WorldState) (s : Stage) : Type 0 where
  pub is : s ≡ stage_of w s.history
  pub standing : Standing w.nodes s.history
  pub service : w.service ≡ service_of (slice_get s.nodes 0)
  pub of_nodes : AreOf s.nodes s.history
  pub few : length s.nodes < 2 ^ 32

-- at each stage that is shown the part was made, and what it came to is shown; or the run ends as the part says
abbrev pub Plays : (Stage → Part Stage) → WorldState → WorldState → Option Stop → Told → Told → Type 0
Plays part old new stop before after = (s : Stage) → Shows old s → Ran (part s) (Shows new) stop before after

-- the same for whatever else is kept, where only the nodes change
abbrev pub PlaysNodes : (Stage → Part Stage) → NodesState → NodesState → Option Stop → Told → Told → Type 0
PlaysNodes part old new stop before after =
    (w : WorldState) → w.nodes ≡ old → Plays part w (record w { nodes = new }) stop before after
