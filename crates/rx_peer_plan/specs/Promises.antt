-- What the run of a plan of peers promises: once, prefixes and ends of each call of each connection from one peer to
-- another. Public clauses cite this module.
use Rattle.std.specs.Prelude.{◌≡◌, ℕ, List, [], ◌∷◌, Option, Some, None, All, IfSome}
use Rattle.rx_joint_peers.specs.Joint.{made_peer}
use Rattle.rx_law.specs.Promises.{LawOn}
use Rattle.rx_model.specs.declared.event.Noted.{Noted}
use Rattle.rx_peer.specs.PeerWorlds.{ForgotNoneOrTimely, IsMade, PeerConnection, PeerNode, ends_of, peer_at}
use Rattle.rx_plan.specs.Promises.{Always}
use Rattle.rx_rules.specs.Setup.{FitsKind}
use Rattle.rx_script.specs.declared.plan.PeerLine.{PeerLine}
use Rattle.rx_script.specs.declared.plan.PeerLine.TheVariants as lines
use Rattle.rx_script.specs.declared.plan.PeerNumbered.{PeerNumbered}

-- ---- the peers of a plan

-- the peer that a line makes, if it makes one
abbrev pub peer_made : PeerLine → Option PeerNode
peer_made (lines.Peer host epoch service limits) = Some (made_peer host epoch service limits)
peer_made _ = None

-- a line's peer before those that the next lines make; a line that makes none ends them
abbrev pub peer_before : Option PeerNode → List PeerNode → List PeerNode
peer_before None ps = []
peer_before (Some p) ps = p ∷ ps

-- the peers that a plan's first lines make
abbrev pub plan_peers : List PeerNumbered → List PeerNode
plan_peers [] = []
plan_peers (l ∷ ls) = peer_before (peer_made l.what) (plan_peers ls)

-- ---- premises

-- the numbers of the halves of a peer that a line makes are in range
pub record IsInRange (p : PeerNode) : Type 0 where
  pub caller : FitsKind p.caller.kind
  pub served : FitsKind p.served.kind

-- those of each peer are
abbrev pub AreInRange : List PeerNumbered → Type 0
AreInRange ls = All (λ l. IfSome (peer_made l.what) IsInRange) ls

-- no two of the peers share a host
abbrev pub HaveOwnHosts : List PeerNode → Type 0
HaveOwnHosts peers =
    (i j : ℕ) → IfSome (peer_at peers i) (λ p. IfSome (peer_at peers j) (λ q. p.host ≡ q.host → i ≡ j))

-- ---- the promise

-- at a moment: where each served half forgot no record, or no datagram of a connection to it is old, each call of each
-- connection from one peer to another has the law
abbrev pub PeerPromised : List PeerNode → List Noted → Type 0
PeerPromised peers h =
    ((j : ℕ) → ForgotNoneOrTimely peers h j)
    → (b : PeerConnection peers) → IsMade peers b h → LawOn (ends_of peers b) h

-- at each moment of the events of a plan of peers
abbrev pub PeerPromises : List PeerNumbered → List Noted → Type 0
PeerPromises ls es = Always es (PeerPromised (plan_peers ls))
