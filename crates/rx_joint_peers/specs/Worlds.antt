-- Peers that stand for a joint history are a world of peers. Public clauses cite this module.
use Rattle.std.specs.Prelude.{◌≡◌, ◌≢◌, ℕ, List, IfSome}
use Rattle.rx_model.specs.declared.event.Noted.{Noted}
use Rattle.rx_model.specs.declared.names.Host.{Host}
use Rattle.rx_law.specs.Promises.{LawOn}
use Rattle.rx_peer.specs.PeerWorlds.{AreOfHalves, ForgotNoneOrTimely, IsMade, IsPeer, PeerConnection, PeerNode}
use Rattle.rx_peer.specs.PeerWorlds.{PeerWorld, ends_of, peer_at}
use Rattle.rx_joint_peers.specs.declared.joint.PeerAt.{PeerAt}
use Rattle.rx_joint_peers.specs.Joint.{Standing, peers_of}

-- each peer is one as it can be made, and no two share an address
pub record ArePeers (peers : List PeerNode) : Type 0 where
  pub each : (i : ℕ) → IfSome (peer_at peers i) IsPeer
  pub apart :
      (i j : ℕ) → IfSome (peer_at peers i) (λ p. IfSome (peer_at peers j) (λ q. p.host ≡ q.host → i ≡ j))

-- no peer has this host
abbrev pub IsNewHost : List PeerNode → Host → Type 0
IsNewHost peers host = (i : ℕ) → IfSome (peer_at peers i) (λ p. p.host ≢ host)

-- what they stand for is a world of peers, where each event is one of a half that may take it
abbrev pub StandingWorld : Type 0
StandingWorld =
    (ps : List PeerAt) (h : List Noted) → ArePeers (peers_of ps) → AreOfHalves (peers_of ps) h → Standing ps h
    → PeerWorld (peers_of ps) h

-- so each call of each connection from one of them to another keeps its promises
abbrev pub StandingLaw : Type 0
StandingLaw =
    (ps : List PeerAt) (h : List Noted) → ArePeers (peers_of ps) → AreOfHalves (peers_of ps) h → Standing ps h
    → ((j : ℕ) → ForgotNoneOrTimely (peers_of ps) h j)
    → (b : PeerConnection (peers_of ps)) → IsMade (peers_of ps) b h → LawOn (ends_of (peers_of ps) b) h
