-- Moments of halves as a joint history has them, and when something is due.
use Rattle.std.proofs.Common.{◌≡◌, ◌≤◌, ◌-◌, ℕ, zero, suc, List, Option, Some, None, option_map}
use Rattle.std.proofs.Common.{◌∙◌, ap, sym, subst, arith}
use Rattle.std.specs.Prelude.{slice_get, IfSome}
use Rattle.std.proofs.lemmas.Option.{slice_get-map}
use Rattle.rx_model.specs.declared.event.Event.{Event}
use Rattle.rx_model.specs.declared.event.Noted.{Noted}
use Rattle.rx_rules.specs.After.{looks}
use Rattle.rx_history.specs.Sides.{moment}
use Rattle.rx_history.proofs.Moments.{now-side}
use Rattle.rx_class.specs.declared.null.Null.{Null}
use Rattle.rx_node.specs.Node.{setup_of}
use Rattle.rx_node.specs.Steps.{StandsNode}
use Rattle.rx_server.specs.Server.{Stands}
use Rattle.rx_peer.specs.declared.peer.Peer.{Peer}
use Rattle.rx_peer.specs.declared.role.Role.{Role}
use Rattle.rx_peer.specs.declared.role.Role.TheVariants as roles
use Rattle.rx_peer.specs.Halves.{StandsPeer, due_of}
use Rattle.rx_peer.specs.PeerWorlds.{PeerNode, half, peer_at}
use Rattle.rx_peer.specs.Roles.{node_of}
use Rattle.rx_joint_peers.specs.declared.joint.PeerAt.{PeerAt}
use Rattle.rx_joint_peers.specs.Joint.{Standing, peer_due, peer_node, peer_of, peers_of, unsecured}

-- a peer with a number stands for its sides
pub peer_stands : (ps : List PeerAt) (number : ℕ) (was : Peer Null) (h : List Noted) → 1 ≤ number
    → peer_of ps number ≡ Some was → Standing ps h
    → StandsPeer unsecured was (half roles.Caller number h) (half roles.Served number h)
peer_stands ps zero was h some there stand = absurd (omega arith)
peer_stands ps (suc k) was h some there stand =
    (let at : suc k - 1 ≡ k = omega arith in
    of (slice_get ps k) (subst (λ i. option_map (λ p. p.peer) (slice_get ps i) ≡ Some was) at there) (stand k))
  where
    of : (o : Option PeerAt) → option_map (λ p. p.peer) o ≡ Some was → IfSome o
        (λ p. StandsPeer unsecured p.peer (half roles.Caller (suc k) h) (half roles.Served (suc k) h))
        → StandsPeer unsecured was (half roles.Caller (suc k) h) (half roles.Served (suc k) h)
    of None there stand = absurd (cc (there))
    of (Some p) there stand =
        (let same : p.peer ≡ was = cc (there) in
        subst (λ (x : Peer Null). StandsPeer unsecured x (half roles.Caller (suc k) h) (half roles.Served (suc k) h))
        same stand)

-- the moment of its caller half, and of its served half, by what they answer
pub caller_moment : (r : Role) (ps : List PeerAt) (number : ℕ) (was : Peer Null) (m : ℕ) → r ≡ roles.Caller
    → 1 ≤ number → peer_of ps number ≡ Some was
    → ((es : List Event) → StandsNode unsecured was.caller es → m ≡ (looks (setup_of unsecured was.caller) es).now)
    → (h : List Noted) → Standing ps h → m ≡ moment (node_of r number) h
caller_moment r ps number was m is some there exact h stand =
    exact (half roles.Caller number h) (peer_stands ps number was h some there stand).caller
    ∙ now-side (setup_of unsecured was.caller) (node_of roles.Caller number) h
    ∙ ap (λ (q : Role). moment (node_of q number) h) (sym is)

pub served_moment : (r : Role) (ps : List PeerAt) (number : ℕ) (was : Peer Null) (m : ℕ) → r ≡ roles.Served
    → 1 ≤ number → peer_of ps number ≡ Some was
    → ((es : List Event) → Stands unsecured was.served es → m ≡ (looks (setup_of unsecured was.served.node) es).now)
    → (h : List Noted) → Standing ps h → m ≡ moment (node_of r number) h
served_moment r ps number was m is some there exact h stand =
    exact (half roles.Served number h) (peer_stands ps number was h some there stand).served
    ∙ now-side (setup_of unsecured was.served.node) (node_of roles.Served number) h
    ∙ ap (λ (q : Role). moment (node_of q number) h) (sym is)

-- when something is due at a peer, by what it answers
pub due_is : (ps : List PeerAt) (number : ℕ) (was : Peer Null) (due : Option ℕ) → 1 ≤ number
    → peer_of ps number ≡ Some was
    → ((calls serves : List Event) → StandsPeer unsecured was calls serves → due ≡ due_of unsecured was calls serves)
    → (h : List Noted) → Standing ps h → IfSome (peer_at (peers_of ps) number) (λ p. due ≡ peer_due p number h)
due_is ps zero was due some there exact h stand = absurd (omega arith)
due_is ps (suc k) was due some there exact h stand =
    (let at : suc k - 1 ≡ k = omega arith in
    let stands = peer_stands ps (suc k) was h some there stand in
    subst (λ (o : Option PeerNode). IfSome o (λ p. due ≡ peer_due p (suc k) h)) (sym (slice_get-map peer_node ps k))
    (of (slice_get ps k) (subst (λ i. option_map (λ p. p.peer) (slice_get ps i) ≡ Some was) at there)
    (exact (half roles.Caller (suc k) h) (half roles.Served (suc k) h) stands)))
  where
    of : (o : Option PeerAt) → option_map (λ p. p.peer) o ≡ Some was
        → due ≡ due_of unsecured was (half roles.Caller (suc k) h) (half roles.Served (suc k) h)
        → IfSome (option_map peer_node o) (λ p. due ≡ peer_due p (suc k) h)
    of None there is = absurd (cc (there))
    of (Some p) there is =
        (let same : p.peer ≡ was = cc (there) in
        subst (λ (x : Peer Null). due ≡ due_of unsecured x (half roles.Caller (suc k) h)
        (half roles.Served (suc k) h)) (sym same) is)
