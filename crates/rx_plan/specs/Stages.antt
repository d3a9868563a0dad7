-- What a run of a plan has come to, and one event more of it. Public clauses cite this module.
use Rattle.std.specs.Prelude.{◌==◌, ◌&&◌, not, nat_lt, ℕ, Bool, List, [], ◌∷◌, ◌++◌, length, Option, Some, None}
use Rattle.std.specs.Prelude.{slice_get, Ok, option_map}
use Rattle.rx_model.specs.declared.event.Event.{Event}
use Rattle.rx_model.specs.declared.event.Event.TheVariants as events
use Rattle.rx_model.specs.declared.event.Noted.{Noted}
use Rattle.rx_model.specs.declared.names.CallName.{CallName}
use Rattle.rx_model.specs.declared.names.Host.{Host}
use Rattle.rx_asks.specs.View.{CallerState}
use Rattle.rx_jobs.specs.Jobs.{JobState}
use Rattle.rx_history.specs.Sides.{Node}
use Rattle.rx_law.specs.Worlds.{Datagram}
use Rattle.rx_events.specs.Joint.{IsAllowedAt}
use Rattle.rx_rules.specs.Setup.{Kind, Server, Client}
use Rattle.rx_wire.specs.Turns.{noted}
use Rattle.rx_plan.specs.declared.call.ClientCall.{ClientCall}
use Rattle.rx_plan.specs.Parts.{Came, To, Part, One, Then, ends}

-- the caller of an invoke: the K of its call, its client, the place of its line in the plan, and what it said and read
pub record InvokedState : Type 0 where
  pub call : ℕ
  pub node : ℕ
  pub line : ℕ
  pub caller : CallerState

-- the nodes, the server first; the joint history, the newest event first; the names that calls and accepts of lines
-- answered, and the datagrams that polls of lines gave, each in order; the callers; the jobs of the dispatcher
pub record Stage : Type 0 where
  pub nodes : List Node
  pub history : List Noted
  pub calls : List ClientCall
  pub accepted : List CallName
  pub packets : List Datagram
  pub callers : List InvokedState
  pub jobs : List JobState

-- the service of a server
abbrev pub service_of : Option Node → ℕ
service_of None = 0
service_of (Some n) = of n.setup.kind
  where
    of : Kind → ℕ
    of (Server service nonces) = service
    of (Client host epoch) = 0

-- ---- one event

-- behind an event of a node
abbrev pub with_event : ℕ → Event → Stage → Stage
with_event node e s = record s { history = noted node e ∷ s.history }

-- an event is the one that is made, and the rules allow its answer
abbrev pub IsAllowedNext : Stage → ℕ → (Event → Type 0) → Event → Type 0
IsAllowedNext s node is e = is e × IsAllowedAt s.nodes s.history node e

-- one event of a node, and what the run comes to by it
abbrev pub event_with : ℕ → (Event → Type 0) → (Event → Stage → Came Stage) → Stage → Part Stage
event_with node is came s = Then (One node (IsAllowedNext s node is)) (λ e. ends (came e (with_event node e s)))

-- one event of a node, of which nothing more is kept
abbrev pub event : ℕ → (Event → Type 0) → Stage → Part Stage
event node is = event_with node is (λ e s. To s)

-- ---- what an event answers

-- the name that a call answered
abbrev pub name_called : Event → Option CallName
name_called (events.Called cid (Ok name)) = Some name
name_called _ = None

-- the name that an accept answered
abbrev pub name_accepted : Event → Option CallName
name_accepted (events.Accepted got) = got
name_accepted _ = None

-- the datagram that a poll gave, from the host of its giver
abbrev pub packet_given : Host → Event → Option Datagram
packet_given from (events.Polled (Some (to, bytes))) = Some (record { from = from; to = to; bytes = bytes })
packet_given from _ = None

-- a list with one more behind it, where there is one
abbrev pub with_some : {X : Type 0} → List X → Option X → List X
with_some xs None = xs
with_some xs (Some x) = xs ++ x ∷ []

-- ---- nodes

-- the node is there
abbrev pub is_node : ℕ → Stage → Bool
is_node node s = nat_lt node (length s.nodes)

-- it is a client that is there
abbrev pub is_client : ℕ → Stage → Bool
is_client node s = not (node == 0) && nat_lt node (length s.nodes)

-- the host of a node
abbrev pub host_at : Stage → ℕ → Option Host
host_at s node = option_map (λ n. n.host) (slice_get s.nodes node)
