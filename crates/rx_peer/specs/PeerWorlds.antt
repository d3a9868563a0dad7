-- Peers with a network between them that invents nothing. Public clauses cite this module.
use Rattle.std.specs.Prelude.{◌≡◌, ◌⊎◌, ℕ, zero, suc, List, [], ◌∷◌, Option, Some, None, IfSome, IsSomeAnd}
use Rattle.std.specs.Prelude.{slice_get}
use Rattle.rx_model.specs.declared.event.Event.{Event}
use Rattle.rx_model.specs.declared.event.Event.TheVariants.{Taken}
use Rattle.rx_model.specs.declared.event.Noted.{Noted}
use Rattle.rx_model.specs.declared.names.Host.{Host}
use Rattle.rx_model.specs.Names.{Connection}
use Rattle.rx_rules.specs.After.{looks}
use Rattle.rx_rules.specs.Looks.{Looks, conn_at}
use Rattle.rx_rules.specs.Rules.{Legal}
use Rattle.rx_rules.specs.Setup.{Setup, FitsSetup, IsServer}
use Rattle.rx_history.specs.Alone.{ForgotNone}
use Rattle.rx_history.specs.Sides.{side, IsClientAt}
use Rattle.rx_law.specs.Promises.{LawOn}
use Rattle.rx_law.specs.Times.{TimelyOn}
use Rattle.rx_law.specs.Worlds.{Gave, TwoEnds}
use Rattle.rx_peer.specs.declared.role.Role.{Role}
use Rattle.rx_peer.specs.declared.role.Role.TheVariants as roles
use Rattle.rx_peer.specs.Roles.{node_of, half_of}

-- ---- peers

-- a peer: its address, and how each half is set up
pub record PeerNode : Type 0 where
  pub host : Host
  pub caller : Setup
  pub served : Setup

-- how this half is
abbrev pub setup_at : Role → PeerNode → Setup
setup_at roles.Caller p = p.caller
setup_at roles.Served p = p.served

-- the peer with a number, from 1 on
abbrev pub peer_at : List PeerNode → ℕ → Option PeerNode
peer_at peers zero = None
peer_at peers (suc i) = slice_get peers i

-- what happened at a half of the peer with a number
abbrev pub half : Role → ℕ → List Noted → List Event
half r i h = side (node_of r i) h

-- the caller half is a client at the peer's address, the served half a server, each as a node can be made
pub record IsPeer (p : PeerNode) : Type 0 where
  pub caller : IsClientAt p.host p.caller.kind
  pub served : IsServer p.served.kind
  pub fits : (r : Role) → FitsSetup (setup_at r p)

-- ---- what the network carries

-- a half of a peer at this address gave the datagram
pub record GaveAs (peers : List PeerNode) (from to : Host) (bytes : List ℕ) (h : List Noted) : Type 0 where
  pub number : ℕ
  pub role : Role
  pub sender : IsSomeAnd (peer_at peers number) (λ p. p.host ≡ from)
  pub gave : Gave to bytes (half role number h)

-- a datagram that is taken was given to the peer before, and is for this half
abbrev pub IsFor : List PeerNode → Host → Role → List Noted → Event → Type 0
IsFor peers at r h (Taken from bytes got) = (r ≡ half_of bytes) × GaveAs peers from at bytes h
IsFor peers at r h _ = Unit {0}

-- an event is one of a half of a peer
pub record IsOfHalf (peers : List PeerNode) (e : Noted) (h : List Noted) : Type 0 where
  pub number : ℕ
  pub role : Role
  pub node : e.node ≡ node_of role number
  pub takes : IsSomeAnd (peer_at peers number) (λ p. IsFor peers p.host role h e.event)

-- each event is
abbrev pub AreOfHalves : List PeerNode → List Noted → Type 0
AreOfHalves peers [] = Unit {0}
AreOfHalves peers (e ∷ h) = IsOfHalf peers e h × AreOfHalves peers h

-- ---- a world of peers

-- each half of each peer has a legal side, no two peers share an address, and the network between them invents nothing:
-- what a peer takes was given to it by a half of its sender, and is taken by the half that it is for
pub record PeerWorld (peers : List PeerNode) (h : List Noted) : Type 0 where
  pub peers_are : (i : ℕ) → IfSome (peer_at peers i) IsPeer
  pub apart :
      (i j : ℕ) → IfSome (peer_at peers i) (λ p. IfSome (peer_at peers j) (λ q. p.host ≡ q.host → i ≡ j))
  pub legal : (i : ℕ) (r : Role) → IfSome (peer_at peers i) (λ p. Legal (setup_at r p) (half r i h))
  pub carried : AreOfHalves peers h

-- ---- connections between peers

-- a connection of the caller half of a peer to another peer, or to itself
pub record PeerConnection (peers : List PeerNode) : Type 0 where
  pub connection : Connection
  pub caller : ℕ
  pub from : PeerNode
  pub from_is : peer_at peers caller ≡ Some from
  pub served : ℕ
  pub to : PeerNode
  pub to_is : peer_at peers served ≡ Some to

-- its two ends
abbrev pub ends_of : (peers : List PeerNode) → PeerConnection peers → TwoEnds
ends_of peers b =
    record {
      connection = b.connection;
      client = node_of roles.Caller b.caller;
      client_setup = b.from.caller;
      server = node_of roles.Served b.served;
      server_setup = b.to.served;
      server_host = b.to.host;
    }

-- what the caller half says of it
abbrev pub at_caller : (peers : List PeerNode) → PeerConnection peers → List Noted → Looks
at_caller peers b h = looks b.from.caller (half roles.Caller b.caller h)

-- the caller half made it, to the other peer's address
abbrev pub IsMade : (peers : List PeerNode) → PeerConnection peers → List Noted → Type 0
IsMade peers b h = IsSomeAnd (conn_at (at_caller peers b h) b.connection) (λ r. r.peer ≡ b.to.host)

-- the served half of the peer with this number forgot no record, or no datagram of a connection to it is old
abbrev pub ForgotNoneOrTimely : (peers : List PeerNode) → List Noted → ℕ → Type 0
ForgotNoneOrTimely peers h j =
    IfSome (peer_at peers j) (λ q. ForgotNone q.served (half roles.Served j h)
    ⊎ ((b : PeerConnection peers) → b.served ≡ j → IsMade peers b h → TimelyOn (ends_of peers b) h))

-- ---- the law

-- each call of each connection from one peer to another enters its handler at most once, what each end read begins what
-- the other said, and a call that ended has what its end says: at every moment
abbrev pub PeerLaw : Type 0
PeerLaw =
    (peers : List PeerNode) (h : List Noted) → PeerWorld peers h → ((j : ℕ) → ForgotNoneOrTimely peers h j)
    → (b : PeerConnection peers) → IsMade peers b h → LawOn (ends_of peers b) h
