-- What a contract sees of several nodes, and for which joint histories they stand. Public clauses cite this module.
use Rattle.std.specs.Prelude.{◌≡◌, ◌≢◌, ◌≤◌, ◌-◌, ℕ, zero, suc, List, ◌∷◌, length, map, Option, option_map, slice_get}
use Rattle.std.specs.Prelude.{unwrap_or, IfSome}
use Rattle.rx_model.specs.declared.event.Event.{Event}
use Rattle.rx_model.specs.declared.event.Noted.{Noted}
use Rattle.rx_model.specs.declared.names.Host.{Host}
use Rattle.rx_history.specs.Sides.{Node, side}
use Rattle.rx_events.specs.Joint.{IsAllowedAt}
use Rattle.rx_table.specs.Records.{changed_at}
use Rattle.rx_node.specs.Node.{NodeState, setup_of}
use Rattle.rx_node.specs.Steps.{StandsNode}
use Rattle.rx_server.specs.Server.{ServerState, Stands}
use Rattle.rx_token.specs.Chosen.{chosen}
use Rattle.rx_joint.specs.declared.nodes.ClientAt.{ClientAt}

-- the server, and the host that it is on; the clients in their order
pub record NodesState : Type 0 where
  pub host : Host
  pub server : ServerState
  pub clients : List ClientAt

-- ---- the nodes

-- a client as the laws see it
abbrev pub client_node : ClientAt → Node
client_node c = record { host = c.host; setup = setup_of chosen c.client }

-- all nodes, the server first
abbrev pub nodes_of : NodesState → List Node
nodes_of n = record { host = n.host; setup = setup_of chosen n.server.node } ∷ map client_node n.clients

-- the server, or one of the clients
abbrev pub IsNodeThere : NodesState → ℕ → Type 0
IsNodeThere n node = node ≤ length n.clients

-- one of the clients
abbrev pub IsClientThere : NodesState → ℕ → Type 0
IsClientThere n node = (1 ≤ node) × (node ≤ length n.clients)

-- the host of a node
abbrev pub host_of : NodesState → ℕ → Host
host_of n zero = n.host
host_of n (suc k) = unwrap_or (option_map (λ c. c.host) (slice_get n.clients k)) n.host

-- the client with a number among the nodes
abbrev pub client_of : NodesState → ℕ → Option NodeState
client_of n node = option_map (λ c. c.client) (slice_get n.clients (node - 1))

-- the moment of a node
abbrev pub moment_of : NodesState → ℕ → ℕ
moment_of n zero = n.server.node.moment
moment_of n (suc k) = unwrap_or (option_map (λ c. c.client.moment) (slice_get n.clients k)) 0

-- those of all nodes, the server's first
abbrev pub moments_of : NodesState → List ℕ
moments_of n = n.server.node.moment ∷ map (λ c. c.client.moment) n.clients

-- ---- changes

-- another state of the server
abbrev pub with_server : NodesState → ServerState → NodesState
with_server n server = record n { server = server }

-- another state of a client
abbrev pub with_client : NodesState → ℕ → NodeState → NodesState
with_client n node client = record n { clients = changed_at (node - 1) (λ c. record c { client = client }) n.clients }

-- ---- joint histories

-- each client stands for its side
abbrev pub ClientsStand : List ClientAt → List Noted → Type 0
ClientsStand cs h = (k : ℕ) → IfSome (slice_get cs k) (λ c. StandsNode chosen c.client (side (suc k) h))

-- each node stands for its side
pub record Standing (n : NodesState) (h : List Noted) : Type 0 where
  pub server : Stands chosen n.server (side 0 h)
  pub clients : ClientsStand n.clients h

-- all nodes but this one are as they were
pub record KeepsOthers (old new : NodesState) (node : ℕ) : Type 0 where
  pub server : node ≢ 0 → new.server ≡ old.server
  pub clients : (k : ℕ) → node ≢ suc k → slice_get new.clients k ≡ slice_get old.clients k

-- an event of a node came: it is allowed behind each joint history for which they stood; they stand for that with the
-- event; each other node is as it was; all are set up as before; and there are as many
pub record Makes (old new : NodesState) (node : ℕ) (e : Event) : Type 0 where
  pub allowed : (h : List Noted) → Standing old h → IsAllowedAt (nodes_of old) h node e
  pub stands : (h : List Noted) → Standing old h → Standing new (record { node = node; event = e } ∷ h)
  pub others : KeepsOthers old new node
  pub nodes : nodes_of new ≡ nodes_of old
  pub count : length new.clients ≡ length old.clients
