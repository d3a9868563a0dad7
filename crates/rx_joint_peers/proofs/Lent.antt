-- A peer as the code finds and lends it.
use Rattle.std.proofs.Common.{◌≡◌, ◌-◌, ℕ, zero, suc, List, [], ◌∷◌, length, get_or, set}
use Rattle.std.proofs.Common.{Some, option_map, refl, ◌∙◌, ap, sym, subst, arith}
use Rattle.std.specs.Prelude.{slice_get}
use Rattle.rx_class.specs.declared.null.Null.{Null}
use Rattle.rx_table.specs.Records.{changed_at}
use Rattle.rx_joint.proofs.Lent.{read_some}
use Rattle.rx_peer.specs.declared.peer.Peer.{Peer}
use Rattle.rx_joint_peers.specs.declared.joint.PeerAt.{PeerAt}
use Rattle.rx_joint_peers.specs.Joint.{IsPeerThere, host_of, peer_of, with_peer}

-- the peer that the code reads
pub read_peer : (xs ps : List PeerAt) (number : ℕ) (p : PeerAt) → xs ≡ ps → IsPeerThere ps number
    → p ≡ get_or xs (number - 1) p → slice_get ps (number - 1) ≡ Some p
read_peer xs ps number p is there read =
    subst (λ qs. slice_get qs (number - 1) ≡ Some p) is
    (read_some xs (number - 1) p (omega (arith, ap (λ (qs : List PeerAt). length qs) is, there.0, there.1)) read)

pub peer_at_place : (xs ps : List PeerAt) (number : ℕ) (p : PeerAt) → xs ≡ ps → IsPeerThere ps number
    → p ≡ get_or xs (number - 1) p → peer_of ps number ≡ Some p.peer
peer_at_place xs ps number p is there read = ap (option_map (λ q. q.peer)) (read_peer xs ps number p is there read)

pub host_at_place : (xs ps : List PeerAt) (number : ℕ) (p : PeerAt) → xs ≡ ps → IsPeerThere ps number
    → p ≡ get_or xs (number - 1) p → host_of ps number ≡ Some p.host
host_at_place xs ps number p is there read = ap (option_map (λ q. q.host)) (read_peer xs ps number p is there read)

-- a peer that changes in its place
set_changed : (ps : List PeerAt) (k : ℕ) (p : PeerAt) (w : Peer Null) → slice_get ps k ≡ Some p
    → set ps k (record { host = p.host; peer = w }) ≡ changed_at k (λ q. record q { peer = w }) ps
set_changed [] k p w there = refl
set_changed (q ∷ ps) zero p w there =
    (let is : q ≡ p = cc (there) in ap (λ (x : PeerAt). record { host = x.host; peer = w } ∷ ps) (sym is))
set_changed (q ∷ ps) (suc k) p w there = ap (λ xs. q ∷ xs) (set_changed ps k p w there)

-- the peers with what is left of it
pub peer_back : (xs ps : List PeerAt) (number : ℕ) (p : PeerAt) (w : Peer Null) → xs ≡ ps → IsPeerThere ps number
    → p ≡ get_or xs (number - 1) p → set xs (number - 1) (record { host = p.host; peer = w }) ≡ with_peer ps number w
peer_back xs ps number p w is there read =
    ap (λ (qs : List PeerAt). set qs (number - 1) (record { host = p.host; peer = w })) is
    ∙ set_changed ps (number - 1) p w (read_peer xs ps number p is there read)
