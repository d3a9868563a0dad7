-- What a contract sees of several peers, and for which joint histories they stand. Public clauses cite this module.
use Rattle.std.specs.Prelude.{◌≡◌, ◌≢◌, ◌≤◌, ◌-◌, ℕ, suc, List, ◌∷◌, length, map, Option, option_map, slice_get}
use Rattle.std.specs.Prelude.{IfSome, IsSomeAnd}
use Rattle.rx_model.specs.declared.event.Event.{Event}
use Rattle.rx_model.specs.declared.event.Event.TheVariants as events
use Rattle.rx_model.specs.declared.event.Noted.{Noted}
use Rattle.rx_model.specs.declared.names.Host.{Host}
use Rattle.rx_model.specs.declared.names.Limits.{Limits}
use Rattle.rx_rules.specs.After.{looks}
use Rattle.rx_rules.specs.Classes.{Class, null}
use Rattle.rx_rules.specs.Items.{due}
use Rattle.rx_rules.specs.Rules.{Allowed}
use Rattle.rx_rules.specs.Setup as setups
use Rattle.rx_class.specs.declared.null.Null.{Null}
use Rattle.rx_table.specs.Records.{changed_at}
use Rattle.rx_node.specs.Due.{lesser_of}
use Rattle.rx_node.specs.Node.{setup_of}
use Rattle.rx_peer.specs.declared.peer.Peer.{Peer}
use Rattle.rx_peer.specs.declared.role.Role.{Role}
use Rattle.rx_peer.specs.declared.role.Role.TheVariants as roles
use Rattle.rx_peer.specs.Halves.{StandsPeer}
use Rattle.rx_peer.specs.PeerWorlds.{AreOfHalves, GaveAs, PeerNode, half, peer_at, setup_at}
use Rattle.rx_peer.specs.Roles.{node_of}
use Rattle.rx_joint_peers.specs.declared.joint.PeerAt.{PeerAt}

-- peers have no security
abbrev pub unsecured : List ℕ → Class
unsecured = λ secret. null

-- ---- the peers

-- a peer as the laws see it
abbrev pub peer_node : PeerAt → PeerNode
peer_node p =
    record {
      host = p.host;
      caller = setup_of unsecured p.peer.caller;
      served = setup_of unsecured p.peer.served.node;
    }

-- all of them
abbrev pub peers_of : List PeerAt → List PeerNode
peers_of ps = map peer_node ps

-- a peer as it is made: each half within the limits
abbrev pub made_peer : Host → ℕ → ℕ → Limits → PeerNode
made_peer host epoch service limits =
    record {
      host = host;
      caller = setups.unprompted (setups.Client host epoch) limits null;
      served = setups.unprompted (setups.Server service 0) limits null;
    }

-- a peer has this number
abbrev pub IsPeerThere : List PeerAt → ℕ → Type 0
IsPeerThere ps number = (1 ≤ number) × (number ≤ length ps)

-- the peer with a number
abbrev pub peer_of : List PeerAt → ℕ → Option (Peer Null)
peer_of ps number = option_map (λ p. p.peer) (slice_get ps (number - 1))

-- its host
abbrev pub host_of : List PeerAt → ℕ → Option Host
host_of ps number = option_map (λ p. p.host) (slice_get ps (number - 1))

-- the moment of a half of a peer
abbrev pub moment_at : Role → Peer Null → ℕ
moment_at roles.Caller p = p.caller.moment
moment_at roles.Served p = p.served.node.moment

-- another state of a peer
abbrev pub with_peer : List PeerAt → ℕ → Peer Null → List PeerAt
with_peer ps number peer = changed_at (number - 1) (λ p. record p { peer = peer }) ps

-- ---- joint histories

-- an event of a half of a peer
abbrev pub of_half : ℕ → Role → Event → Noted
of_half number r e = record { node = node_of r number; event = e }

-- each half of each peer stands for its side
abbrev pub Standing : List PeerAt → List Noted → Type 0
Standing ps h =
    (k : ℕ) → IfSome (slice_get ps k)
    (λ p. StandsPeer unsecured p.peer (half roles.Caller (suc k) h) (half roles.Served (suc k) h))

-- the rules allow an event of a half of a peer behind a joint history
abbrev pub IsAllowedAt : List PeerNode → List Noted → ℕ → Role → Event → Type 0
IsAllowedAt peers h number r e =
    IsSomeAnd (peer_at peers number) (λ p. Allowed (setup_at r p) (looks (setup_at r p) (half r number h)) e)

-- a datagram that a peer takes was given to it before; of any other event nothing is wanted
abbrev pub WasGiven : List PeerNode → List Noted → ℕ → Event → Type 0
WasGiven peers h number (events.Taken from bytes got) =
    IsSomeAnd (peer_at peers number) (λ p. GaveAs peers from p.host bytes h)
WasGiven peers h number _ = Unit {0}

-- the half of a peer that this one isn't is as it was
abbrev pub KeepsOtherHalf : Role → Option (Peer Null) → Option (Peer Null) → Type 0
KeepsOtherHalf roles.Caller old new = option_map (λ p. p.served) new ≡ option_map (λ p. p.served) old
KeepsOtherHalf roles.Served old new = option_map (λ p. p.caller) new ≡ option_map (λ p. p.caller) old

-- all halves but this one are as they were
pub record KeepsOthers (old new : List PeerAt) (number : ℕ) (r : Role) : Type 0 where
  pub peers : (k : ℕ) → number ≢ suc k → slice_get new k ≡ slice_get old k
  pub half : KeepsOtherHalf r (peer_of old number) (peer_of new number)

-- an event of a half of a peer came: it is allowed behind each joint history for which the peers stood; they stand for
-- that with the event; where the network invents nothing, each event is one of a half that may take it; each other half
-- is as it was; all are set up as before; and there are as many
pub record Makes (old new : List PeerAt) (number : ℕ) (r : Role) (e : Event) : Type 0 where
  pub allowed : (h : List Noted) → Standing old h → IsAllowedAt (peers_of old) h number r e
  pub stands : (h : List Noted) → Standing old h → Standing new (of_half number r e ∷ h)
  pub carried :
      (h : List Noted) → WasGiven (peers_of old) h number e → AreOfHalves (peers_of old) h
      → AreOfHalves (peers_of new) (of_half number r e ∷ h)
  pub others : KeepsOthers old new number r
  pub peers : peers_of new ≡ peers_of old
  pub count : length new ≡ length old

-- an event of the caller half of a peer came, and then one of its served half
pub record MakesBoth (old new : List PeerAt) (number : ℕ) (calls serves : Event) : Type 0 where
  pub between : List PeerAt
  pub caller : Makes old between number roles.Caller calls
  pub served : Makes between new number roles.Served serves

-- ---- times

-- from which moment on a poll of a half of a peer would do something
abbrev pub due_at : Role → PeerNode → ℕ → List Noted → Option ℕ
due_at r p number h = due (setup_at r p) (looks (setup_at r p) (half r number h))

-- from which moment on a poll of a peer would
abbrev pub peer_due : PeerNode → ℕ → List Noted → Option ℕ
peer_due p number h =
    lesser_of (λ moment. moment) (due_at roles.Caller p number h) (due_at roles.Served p number h)
