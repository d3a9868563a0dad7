-- One event of the nodes, as an event of a run.
use Rattle.std.proofs.Common.{◌≡◌, ◌<◌, ◌∙◌, ℕ, suc, Option, Some, None, sym, subst, ap, length, map}
use Rattle.std.proofs.Common.{arith}
use Rattle.std.proofs.lemmas.List.{length-map}
use Rattle.rx_model.specs.declared.event.Event.{Event}
use Rattle.rx_events.specs.Joint.{IsAllowedAt}
use Rattle.rx_joint.specs.Nodes.{IsNodeThere, Makes, NodesState, client_node, nodes_of}
use Rattle.rx_script.specs.declared.outcome.PlanWhy.{PlanWhy}
use Rattle.rx_wire.specs.Turns.{noted}
use Rattle.rx_stage.specs.declared.stop.Stop.{Stop}
use Rattle.rx_stage.specs.declared.stop.Stop.TheVariants as stops
use Rattle.rx_plan.specs.Finds.{found_or}
use Rattle.rx_plan.specs.Parts.{To, One, Part, ends}
use Rattle.rx_stage.specs.Ran.{Ran}
use Rattle.rx_plan.specs.Stages.{IsAllowedNext, Stage, event, with_event}
use Rattle.rx_stage.specs.Shown.{Plays, Shows, WorldState, stage_of}
use Rattle.rx_stage.specs.Tells.{IsTold, Told}
use Rattle.rx_stage.proofs.Running.{ran_one, ran_refused, ran_stops, ran_then, ran_to}

-- ---- what is shown

-- the nodes of a stage that is shown
pub nodes_shown : (w : WorldState) (s : Stage) → Shows w s → s.nodes ≡ nodes_of w.nodes
nodes_shown w s shown = ap (λ (t : Stage). t.nodes) shown.is

-- a node that is there is one of these
pub there_shown : (w : WorldState) (s : Stage) (node : ℕ) → Shows w s → IsNodeThere w.nodes node → node < length s.nodes
there_shown w s node shown there =
    subst (λ ns. node < length ns) (sym (nodes_shown w s shown))
    (let long : length (map client_node w.nodes.clients) ≡ length w.nodes.clients = length-map w.nodes.clients
    client_node in
    subst (λ n. node < suc n) (sym long) (omega (arith, there)))

-- the stage behind an event of the nodes
pub shown_behind : (w : WorldState) (s : Stage) (new : NodesState) (node : ℕ) (e : Event) → Shows w s
    → Makes w.nodes new node e → IsNodeThere w.nodes node → Shows (record w { nodes = new }) (with_event node e s)
shown_behind w s new node e shown made there =
    record {
      is = ap (with_event node e) shown.is
          ∙ ap (λ ns. record (with_event node e (stage_of w s.history)) { nodes = ns }) (sym made.nodes);
      standing = made.stands s.history shown.standing;
      service = shown.service;
      of_nodes = (there_shown w s node shown there, shown.of_nodes);
      few = shown.few;
    }

-- a call that was made is the event of a node that the rules allow there
pub made_here : (w : WorldState) (s : Stage) (new : NodesState) (node : ℕ) (is : Event → Type 0) (e : Event)
    → Shows w s → Makes w.nodes new node e → is e → IsAllowedNext s node is e
made_here w s new node is e shown made asked = (
  asked,
  subst (λ ns. IsAllowedAt ns s.history node e) (sym (nodes_shown w s shown))
      (made.allowed s.history shown.standing),
)

-- ---- one event

-- a call was made and told
pub event_plays : (w : WorldState) (new : NodesState) (node : ℕ) (is : Event → Type 0) (e : Event)
    (stop : Option Stop) (a b : Told) → Makes w.nodes new node e → IsNodeThere w.nodes node → is e
    → IsTold stop a b (noted node e) → Plays (event node is) w (record w { nodes = new }) stop a b
event_plays w new node is e None a b made there asked told s shown =
    ran_then (One node (IsAllowedNext s node is)) (λ x. ends (To (with_event node x s))) (λ x. x ≡ e)
    (Shows (record w { nodes = new })) None a b b
    (ran_one node (IsAllowedNext s node is) e None a b (made_here w s new node is e shown made asked) told)
    (λ x same. subst (λ y. Ran (ends (To (with_event node y s))) (Shows (record w { nodes = new })) None b b) (sym same)
    (ran_to (Shows (record w { nodes = new })) (with_event node e s) b (shown_behind w s new node e shown made there)))
event_plays w new node is e (Some stop) a b made there asked told s shown =
    ran_stops (One node (IsAllowedNext s node is)) (λ x. ends (To (with_event node x s))) (λ x. x ≡ e)
    (Shows (record w { nodes = new })) stop a b
    (ran_one node (IsAllowedNext s node is) e (Some stop) a b (made_here w s new node is e shown made asked) told)

-- ---- what a line names

-- it isn't
pub refused_plays : {X : Type 0} (why : PlanWhy) (next : X → Stage → Part Stage) (sought : Stage → Option X)
    (w new : WorldState) (t : Told) → ((s : Stage) → Shows w s → sought s ≡ None)
    → Plays (λ s. found_or why next (sought s) s) w new (Some (stops.Refused why)) t t
refused_plays why next sought w new t none s shown =
    subst (λ o. Ran (found_or why next o s) (Shows new) (Some (stops.Refused why)) t t) (sym (none s shown))
    (ran_refused (Shows new) why t)
