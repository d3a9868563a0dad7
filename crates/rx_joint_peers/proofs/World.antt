-- Peers that stand for a joint history are a world of peers.
use Rattle.std.proofs.Common.{ℕ, zero, suc, List, Option, Some, None, option_map, sym, subst}
use Rattle.std.specs.Prelude.{slice_get, IfSome}
use Rattle.std.proofs.lemmas.Option.{slice_get-map}
use Rattle.rx_model.specs.declared.event.Noted.{Noted}
use Rattle.rx_rules.specs.Rules.{Legal}
use Rattle.rx_peer.specs.declared.role.Role.{Role}
use Rattle.rx_peer.specs.declared.role.Role.TheVariants as roles
use Rattle.rx_peer.specs.Halves.{StandsPeer}
use Rattle.rx_peer.specs.PeerWorlds.{PeerNode, half, peer_at, setup_at}
use Rattle.rx_peer.proofs.Kept.{peer_law}
use Rattle.rx_joint_peers.specs.declared.joint.PeerAt.{PeerAt}
use Rattle.rx_joint_peers.specs.Joint.{Standing, peer_node, peers_of, unsecured}
use Rattle.rx_joint_peers.specs.Worlds.{StandingLaw, StandingWorld}

-- each half has a legal side
legal_sides : (ps : List PeerAt) (h : List Noted) → Standing ps h → (i : ℕ) (r : Role)
    → IfSome (peer_at (peers_of ps) i) (λ p. Legal (setup_at r p) (half r i h))
legal_sides ps h stand zero r = tt
legal_sides ps h stand (suc k) r =
    subst (λ (o : Option PeerNode). IfSome o (λ p. Legal (setup_at r p) (half r (suc k) h)))
    (sym (slice_get-map peer_node ps k)) (of r (slice_get ps k) (stand k))
  where
    of : (r : Role) (o : Option PeerAt) → IfSome o
        (λ p. StandsPeer unsecured p.peer (half roles.Caller (suc k) h) (half roles.Served (suc k) h))
        → IfSome (option_map peer_node o) (λ p. Legal (setup_at r p) (half r (suc k) h))
    of r None stand = tt
    of roles.Caller (Some p) stand = stand.caller.legal
    of roles.Served (Some p) stand = stand.served.legal

pub standing_world : StandingWorld
standing_world ps h are halves stand =
    record {
      peers_are = are.each;
      apart = are.apart;
      legal = legal_sides ps h stand;
      carried = halves;
    }

pub standing_law : StandingLaw
standing_law ps h are halves stand kept b made =
    peer_law (peers_of ps) h (standing_world ps h are halves stand) kept b made
