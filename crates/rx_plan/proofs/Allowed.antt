-- A joint history each of whose events the rules allow has legal sides.
use Rattle.std.proofs.Common.{◌≡◌, ◌<◌, ◌==◌, if◌then◌else◌, ℕ, zero, suc, Bool, true, false, List, [], ◌∷◌, ◌++◌}
use Rattle.std.proofs.Common.{length, Option, Some, None, refl, subst, slice_get, IfSome, IsSomeAnd}
use Rattle.std.proofs.lemmas.Option.{slice_get_within}
use Rattle.rx_model.specs.declared.event.Noted.{Noted}
use Rattle.rx_model.proofs.NameLaws.{same_number}
use Rattle.rx_rules.specs.After.{looks}
use Rattle.rx_rules.specs.Rules.{Allowed, Legal}
use Rattle.rx_rules.specs.Setup.{FitsSetup, IsServer}
use Rattle.rx_history.specs.Sides.{IsClientAt, Node, side}
use Rattle.rx_law.specs.Worlds.{AreNodes, AreOf, Sides}
use Rattle.rx_events.specs.Joint.{IsAllowedAt}

-- ---- histories

-- each event is one that the rules allow behind those before it
abbrev pub AreAllowed : List Node → List Noted → Type 0
AreAllowed nodes [] = Unit {0}
AreAllowed nodes (e ∷ h) = IsAllowedAt nodes h e.node e.event × AreAllowed nodes h

-- so it is at each earlier moment
pub allowed_before : (nodes : List Node) (later now : List Noted) → AreAllowed nodes (later ++ now)
    → AreAllowed nodes now
allowed_before nodes [] now a = a
allowed_before nodes (e ∷ later) now a = allowed_before nodes later now a.1

-- a node of which something holds is there
within : (ns : List Node) (k : ℕ) (P : Node → Type 0) → IsSomeAnd (slice_get ns k) P → k < length ns
within ns k P there = of (slice_get ns k) refl there
  where
    of : (o : Option Node) → slice_get ns k ≡ o → IsSomeAnd o P → k < length ns
    of None is p = elim p [ ]
    of (Some n) is p = slice_get_within ns k n is

are_of : (nodes : List Node) (h : List Noted) → AreAllowed nodes h → AreOf nodes h
are_of nodes [] a = tt
are_of nodes (e ∷ h) a = (
  within nodes e.node (λ n. Allowed n.setup (looks n.setup (side e.node h)) e.event) a.0,
  are_of nodes h a.1,
)

pub legal_side : (nodes : List Node) (h : List Noted) (k : ℕ) (n : Node) → slice_get nodes k ≡ Some n
    → AreAllowed nodes h → Legal n.setup (side k h)
legal_side nodes [] k n is a = tt
legal_side nodes (e ∷ h) k n is a = of (e.node == k) refl (legal_side nodes h k n is a.1)
  where
    -- at a node
    at : ℕ → Option Node → Type 0
    at j o = IsSomeAnd o (λ m. Allowed m.setup (looks m.setup (side j h)) e.event)

    of : (b : Bool) → (e.node == k) ≡ b → Legal n.setup (side k h)
        → Legal n.setup (if b then e.event ∷ side k h else side k h)
    of false same rest = rest
    of true same rest =
        (let there : IsSomeAnd (slice_get nodes k) (λ m. Allowed m.setup (looks m.setup (side k h)) e.event) =
        subst (λ j. IsSomeAnd (slice_get nodes j) (λ m. Allowed m.setup (looks m.setup (side j h)) e.event))
        (same_number e.node k same) a.0 in
        (subst (λ o. IsSomeAnd o (λ m. Allowed m.setup (looks m.setup (side k h)) e.event)) is there, rest))

pub sides_of : (nodes : List Node) (h : List Noted) → AreNodes nodes → AreAllowed nodes h → Sides nodes h
sides_of nodes h are a =
    record { nodes_are = are; events_are = are_of nodes h a; legal = λ k. of k (slice_get nodes k) refl }
  where
    of : (k : ℕ) (o : Option Node) → slice_get nodes k ≡ o → IfSome o (λ n. Legal n.setup (side k h))
    of k None is = tt
    of k (Some n) is = legal_side nodes h k n is a

-- ---- nodes

-- each is a client at its own address, as a node can be made
abbrev pub AreClients : List Node → Type 0
AreClients [] = Unit {0}
AreClients (n ∷ ns) = (IsClientAt n.host n.setup.kind × FitsSetup n.setup) × AreClients ns

pub clients_more : (ns : List Node) (n : Node) → AreClients ns → IsClientAt n.host n.setup.kind → FitsSetup n.setup
    → AreClients (ns ++ n ∷ [])
clients_more [] n are at fits = ((at, fits), tt)
clients_more (m ∷ ns) n are at fits = (are.0, clients_more ns n are.1 at fits)

clients_at : (ns : List Node) → AreClients ns → (k : ℕ) → IfSome (slice_get ns k) (λ n. IsClientAt n.host n.setup.kind)
clients_at [] are k = tt
clients_at (n ∷ ns) are zero = are.0.0
clients_at (n ∷ ns) are (suc k) = clients_at ns are.1 k

clients_fit : (ns : List Node) → AreClients ns → (k : ℕ) → IfSome (slice_get ns k) (λ n. FitsSetup n.setup)
clients_fit [] are k = tt
clients_fit (n ∷ ns) are zero = are.0.1
clients_fit (n ∷ ns) are (suc k) = clients_fit ns are.1 k

pub are_nodes : (s : Node) (ns : List Node) → IsServer s.setup.kind → FitsSetup s.setup → AreClients ns
    → AreNodes (s ∷ ns)
are_nodes s ns server fits are = record { server = server; clients = clients_at ns are; fits = all }
  where
    all : (k : ℕ) → IfSome (slice_get (s ∷ ns) k) (λ n. FitsSetup n.setup)
    all zero = fits
    all (suc k) = clients_fit ns are k
