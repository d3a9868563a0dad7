-- The rules allow each event of a joint history with legal sides; and the client of a call is the one node with its
-- host and epoch.
use Rattle.std.proofs.Common.{◌≡◌, ◌≢◌, ◌==◌, ◌<◌, ℕ, zero, suc, Bool, true, false, List, [], ◌∷◌, Option, Some, None}
use Rattle.std.proofs.Common.{refl, ◌∙◌, ap, sym, subst, length, arith, if◌then◌else◌, is_some}
use Rattle.std.specs.Prelude.{slice_get, IfSome, IsSomeAnd}
use Rattle.rx_model.specs.declared.event.Event.{Event}
use Rattle.rx_model.specs.declared.event.Noted.{Noted}
use Rattle.rx_model.specs.declared.names.CallName.{CallName}
use Rattle.rx_model.specs.declared.names.Host.{Host}
use Rattle.rx_model.proofs.NameLaws.{number_itself, same_number}
use Rattle.rx_rules.specs.After.{looks}
use Rattle.rx_rules.specs.Looks.{CallRecord, call_at}
use Rattle.rx_rules.specs.Rules.{Allowed, Legal}
use Rattle.rx_rules.specs.Setup.{Setup, Kind, Client, FitsSetup}
use Rattle.rx_history.specs.Sides.{Node, side}
use Rattle.rx_history.proofs.ClientHistory.{client-calls}
use Rattle.rx_history.proofs.Data.{OwnName}
use Rattle.rx_law.specs.Worlds.{AreApart, Sides}
use Rattle.rx_law.proofs.World.{if-some}
use Rattle.rx_plan.proofs.Allowed.{AreAllowed}
use Rattle.rx_plan.proofs.Callers.{side_own}

-- ---- histories

there_within : (ns : List Node) (k : ℕ) → k < length ns → (n : Node) × (slice_get ns k ≡ Some n)
there_within [] k low = absurd (omega arith)
there_within (n ∷ ns) zero low = (n, refl)
there_within (n ∷ ns) (suc k) low = there_within ns k (omega arith)

sides_less : (nodes : List Node) (e : Noted) (h : List Noted) → Sides nodes (e ∷ h) → Sides nodes h
sides_less nodes e h w =
    record {
      nodes_are = w.nodes_are;
      events_are = w.events_are.1;
      legal = λ k. of k (slice_get nodes k) (w.legal k);
    }
  where
    by : (k : ℕ) (n : Node) (b : Bool) → Legal n.setup (if b then e.event ∷ side k h else side k h)
        → Legal n.setup (side k h)
    by k n true legal = legal.1
    by k n false legal = legal

    of : (k : ℕ) (o : Option Node) → IfSome o (λ n. Legal n.setup (side k (e ∷ h)))
        → IfSome o (λ n. Legal n.setup (side k h))
    of k None legal = tt
    of k (Some n) legal = by k n (e.node == k) legal

-- where each node's side is legal the rules allow each event
pub allowed_all : (nodes : List Node) (h : List Noted) → Sides nodes h → AreAllowed nodes h
allowed_all nodes [] w = tt
allowed_all nodes (e ∷ h) w =
    (let n = there_within nodes e.node w.events_are.0 in
    let legal : Legal n.0.setup (side e.node (e ∷ h)) =
    if-some (slice_get nodes e.node) n.0 (λ m. Legal m.setup (side e.node (e ∷ h))) n.1 (w.legal e.node) in
    let own : Legal n.0.setup (e.event ∷ side e.node h) =
    subst (Legal n.0.setup) (side_own e.node e.event h) legal in (
      subst (λ (o : Option Node). IsSomeAnd o (λ m. Allowed m.setup (looks m.setup (side e.node h)) e.event)) (sym n.1)
          own.0,
      allowed_all nodes h (sides_less nodes e h w),
    ))

-- ---- the call's client

-- the names of a client's calls have its host and epoch
pub own_call_kind : (s : Setup) (h : List Event) (c : CallName) (r : CallRecord) (host : Host) (epoch : ℕ)
    → s.kind ≡ Client host epoch → FitsSetup s → Legal s h → call_at (looks s h) c ≡ Some r
    → s.kind ≡ Client c.host c.epoch
own_call_kind s h c r host epoch kind fits legal there =
    (let g = (client-calls s host epoch h kind fits legal).standing.calls c in
    let own : OwnName s.kind c = (g.named (ap is_some there)).own in
    let name : OwnName (Client host epoch) c = subst (λ (k : Kind). OwnName k c) kind own in
    kind ∙ (λ i. Client (sym name.0 i) (sym name.1 i)))

-- no other node is a client with this host and epoch
pub one_client : (nodes : List Node) (c : CallName) (j k : ℕ) (n client : Node)
    → ((i k : ℕ) → i ≢ k → IfSome (slice_get nodes i) (λ n. IfSome (slice_get nodes k)
    (λ o. AreApart n.setup.kind o.setup.kind)))
    → slice_get nodes j ≡ Some n → slice_get nodes k ≡ Some client → n.setup.kind ≡ Client c.host c.epoch
    → client.setup.kind ≡ Client c.host c.epoch → j ≡ k
one_client nodes c j k n client apart there at one other = by (j == k) refl
  where
    by : (b : Bool) → (j == k) ≡ b → j ≡ k
    by true same = same_number j k same
    by false differ =
        (let two : AreApart n.setup.kind client.setup.kind =
        if-some (slice_get nodes k) client (λ o. AreApart n.setup.kind o.setup.kind) at
        (if-some (slice_get nodes j) n (λ m. IfSome (slice_get nodes k) (λ o. AreApart m.setup.kind o.setup.kind)) there
        (apart j k (λ same. (
        let yes : (j == k) ≡ true = subst (λ (i : ℕ). (j == i) ≡ true) same (number_itself j) in
        absurd (let no : false ≡ true = sym differ ∙ yes in cc))))) in
        let both : AreApart (Client c.host c.epoch) (Client c.host c.epoch) =
        subst (λ (q : Kind). AreApart (Client c.host c.epoch) q) other
        (subst (λ (q : Kind). AreApart q client.setup.kind) one two) in
        absurd (both (refl, refl)))
