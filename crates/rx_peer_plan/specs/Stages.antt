-- What a run of a plan of peers has come to, and one event more of it. Public clauses cite this module.
use Rattle.std.specs.Prelude.{◌≡◌, ℕ, zero, suc, List, [], ◌∷◌, ◌++◌, length, Option, option_map, unwrap_or}
use Rattle.rx_model.specs.declared.event.Event.{Event}
use Rattle.rx_model.specs.declared.event.Noted.{Noted}
use Rattle.rx_model.specs.declared.names.Host.{Host}
use Rattle.rx_history.specs.Sides.{Node}
use Rattle.rx_jobs.specs.Handlers.{Handlers}
use Rattle.rx_jobs.specs.Jobs.{JobState}
use Rattle.rx_joint_peers.specs.Joint.{IsAllowedAt}
use Rattle.rx_law.specs.Worlds.{Datagram}
use Rattle.rx_peer.specs.declared.role.Role.{Role}
use Rattle.rx_peer.specs.declared.role.Role.TheVariants as roles
use Rattle.rx_peer.specs.PeerWorlds.{PeerNode, peer_at, setup_at}
use Rattle.rx_peer.specs.Roles.{node_of}
use Rattle.rx_peer_plan.specs.declared.call.PeerCall.{PeerCall}
use Rattle.rx_plan.specs.Finds.{numbered}
use Rattle.rx_plan.specs.Parts.{Came, One, Part, Then, To, ends}
use Rattle.rx_plan.specs.Stages.{InvokedState}
use Rattle.rx_run.specs.Programs.{IsNext, Stages}
use Rattle.rx_script.specs.Saying.{Answering}
use Rattle.rx_wire.specs.Turns.{noted}
use Rattle.xdr_value.specs.Data.{Procs, Types}

-- the peers; the joint history, the newest event first, in which a half of a peer has its node's number; the names that
-- calls of lines answered, and the datagrams that polls of lines gave, each in order; the callers, each with the node
-- of its caller half; and the jobs of each peer's dispatcher
pub record PeerStage : Type 0 where
  pub peers : List PeerNode
  pub history : List Noted
  pub calls : List PeerCall
  pub packets : List Datagram
  pub callers : List InvokedState
  pub jobs : List (List JobState)

-- ---- one event

-- a node is a half of a peer that is there, and the rules allow its event behind a joint history
pub record IsAllowedOf (peers : List PeerNode) (h : List Noted) (node : ℕ) (e : Event) : Type 0 where
  pub number : ℕ
  pub role : Role
  pub is : node ≡ node_of role number
  pub allowed : IsAllowedAt peers h number role e

-- behind an event of a node
abbrev pub with_event : ℕ → Event → PeerStage → PeerStage
with_event node e s = record s { history = noted node e ∷ s.history }

-- the stages of a plan of peers: a step is an event of a half, as it is noted
abbrev pub peer_stages : Stages PeerStage Noted
peer_stages = record {
  may = λ s node e. IsAllowedOf s.peers s.history node e;
  after = with_event;
  made = noted;
}

-- one event of a node, and what the run comes to by it
abbrev pub event_with : ℕ → (Event → Type 0) → (Event → PeerStage → Came PeerStage) → PeerStage → Part PeerStage
event_with node is came s =
    Then (One node (IsNext peer_stages s node is)) (λ e. ends (came e (with_event node e s)))

-- one event of a node, of which nothing more is kept
abbrev pub event : ℕ → (Event → Type 0) → PeerStage → Part PeerStage
event node is = event_with node is (λ e s. To s)

-- ---- peers

-- the numbers from 1 on, so many
abbrev pub from_one : ℕ → List ℕ
from_one zero = []
from_one (suc n) = from_one n ++ suc n ∷ []

-- those of all peers
abbrev pub numbers : PeerStage → List ℕ
numbers s = from_one (length s.peers)

-- the host of a peer
abbrev pub host_at : PeerStage → ℕ → Option Host
host_at s number = option_map (λ p. p.host) (peer_at s.peers number)

-- a half of a peer, as a node
abbrev pub half_node : Role → PeerNode → Node
half_node r p = record { host = p.host; setup = setup_at r p }

-- something of each half of peers, whose numbers are those from this one on
abbrev pub over_halves : {X : Type 0} → (ℕ → Node → X) → ℕ → List PeerNode → List X
over_halves f number [] = []
over_halves f number (p ∷ ps) =
    f (node_of roles.Caller number) (half_node roles.Caller p)
    ∷ f (node_of roles.Served number) (half_node roles.Served p)
    ∷ over_halves f (suc number) ps

-- ---- handlers

-- the interface of all peers, and the script of each, in order
pub record PeerHandlers : Type 0 where
  pub types : Types
  pub procs : Procs
  pub scripts : List (List Answering)

-- what the handlers of the peer with a number go by
abbrev pub handlers_at : PeerHandlers → ℕ → Handlers
handlers_at g number =
    record { types = g.types; procs = g.procs; script = unwrap_or (numbered g.scripts number) [] }
