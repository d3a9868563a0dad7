-- Joint histories of peers, each of whose events the rules allow and some half may take: each half has a legal side.
use Rattle.std.proofs.Common.{◌≡◌, ◌==◌, if◌then◌else◌, ℕ, Bool, true, false, List, [], ◌∷◌, ◌++◌}
use Rattle.std.proofs.Common.{Option, Some, None, refl, ◌∙◌, inl, inr, sym, subst, IfSome, IsSomeAnd}
use Rattle.rx_joint_peers.specs.Joint.{IsAllowedAt}
use Rattle.rx_law.proofs.World.{and-some}
use Rattle.rx_law.specs.Worlds.{Datagram, Gave}
use Rattle.rx_model.proofs.NameLaws.{number_itself, same_number}
use Rattle.rx_model.specs.declared.event.Event.{Event}
use Rattle.rx_model.specs.declared.event.Event.TheVariants as events
use Rattle.rx_model.specs.declared.event.Noted.{Noted}
use Rattle.rx_model.specs.declared.names.Host.{Host}
use Rattle.rx_history.specs.Sides.{side}
use Rattle.rx_peer.proofs.Carrying.{same_half}
use Rattle.rx_peer.specs.declared.role.Role.{Role}
use Rattle.rx_peer.specs.PeerWorlds.{AreOfHalves, GaveAs, IsFor, PeerNode, half, peer_at, setup_at}
use Rattle.rx_peer.specs.Roles.{node_of}
use Rattle.rx_peer_plan.specs.Stages.{IsAllowedOf}
use Rattle.rx_plan.proofs.Bags.{behind}
use Rattle.rx_plan.proofs.Soundness.Sound.{IsCalm}
use Rattle.rx_rules.specs.After.{looks}
use Rattle.rx_rules.specs.Rules.{Allowed, Legal}
use Rattle.rx_wire.specs.Turns.{noted}

-- ---- what was given

gave_more : (to : Host) (bytes : List ℕ) (e : Event) (h : List Event) (b : Bool) → Gave to bytes h
    → Gave to bytes (if b then e ∷ h else h)
gave_more to bytes e h true gave = inr gave
gave_more to bytes e h false gave = gave

pub gave_own : (n : ℕ) (to : Host) (bytes : List ℕ) (h : List Noted)
    → Gave to bytes (side n (noted n (events.Polled (Some (to, bytes))) ∷ h))
gave_own n to bytes h =
    subst (λ (b : Bool). Gave to bytes (if b then events.Polled (Some (to, bytes)) ∷ side n h else side n h))
    (sym (number_itself n)) (inl (refl, refl))

module _ (peers : List PeerNode) where
  -- a half of the peer with a datagram's host gave it
  abbrev pub In : List Noted → Datagram → Type 0
  In h d = GaveAs peers d.from d.to d.bytes h

  in_more : (e : Noted) (h : List Noted) (d : Datagram) → In h d → In (e ∷ h) d
  in_more e h d i = record {
    number = i.number;
    role = i.role;
    sender = i.sender;
    gave = gave_more d.to d.bytes e.event (half i.role i.number h) (e.node == node_of i.role i.number) i.gave;
  }

  -- which stays so
  pub in_behind : (es h : List Noted) (d : Datagram) → In h d → In (behind es h) d
  in_behind [] h d i = i
  in_behind (e ∷ es) h d i = in_behind es (e ∷ h) d (in_more e h d i)

  -- ---- histories

  -- each event is one that the rules allow behind those before it
  abbrev pub AreAllowed : List Noted → Type 0
  AreAllowed [] = Unit {0}
  AreAllowed (e ∷ h) = IsAllowedOf peers h e.node e.event × AreAllowed h

  -- and one of a half that may take it
  pub record Good (h : List Noted) : Type 0 where
    pub allowed : AreAllowed h
    pub carried : AreOfHalves peers h

  -- no event
  pub good_none : Good []
  good_none = record { allowed = tt; carried = tt }

  -- so it is at each earlier moment
  pub good_before : (later now : List Noted) → Good (later ++ now) → Good now
  good_before [] now g = g
  good_before (e ∷ later) now g =
      good_before later now (record { allowed = g.allowed.1; carried = g.carried.1 })

  -- a half of a peer that is this node may take an event
  abbrev pub IsFair : List Noted → ℕ → Event → Type 0
  IsFair h node e =
      (number : ℕ) (role : Role) → node ≡ node_of role number
      → IfSome (peer_at peers number) (λ p. IsFor peers p.host role h e)

  calm_for : (at : Host) (role : Role) (h : List Noted) (e : Event) → IsCalm e → IsFor peers at role h e
  calm_for at role h (events.Taken from bytes got) calm = elim calm [ ]
  calm_for at role h e calm = tt

  -- one that takes no datagram
  pub calm_fair : (h : List Noted) (node : ℕ) (e : Event) → IsCalm e → IsFair h node e
  calm_fair h node e calm number role is = of (peer_at peers number)
    where
      of : (o : Option PeerNode) → IfSome o (λ p. IsFor peers p.host role h e)
      of None = tt
      of (Some p) = calm_for p.host role h e calm

  both : (o : Option PeerNode) (P Q : PeerNode → Type 0) → IsSomeAnd o P → IfSome o Q → IsSomeAnd o Q
  both None P Q there fair = elim there [ ]
  both (Some p) P Q there fair = fair

  pub good_more : (h : List Noted) (node : ℕ) (e : Event) → Good h → IsAllowedOf peers h node e → IsFair h node e
      → Good (noted node e ∷ h)
  good_more h node e g allowed fair =
      record {
        allowed = (allowed, g.allowed);
        carried = (
          record {
            number = allowed.number;
            role = allowed.role;
            node = allowed.is;
            takes =
                both (peer_at peers allowed.number)
                (λ p. Allowed (setup_at allowed.role p)
                (looks (setup_at allowed.role p) (half allowed.role allowed.number h)) e)
                (λ p. IsFor peers p.host allowed.role h e) allowed.allowed
                (fair allowed.number allowed.role allowed.is);
          },
          g.carried,
        );
      }

  -- ---- sides

  -- an event of a half of a peer is allowed by its setup
  allowed_half : (e : Noted) (h : List Noted) (i : ℕ) (r : Role) (p : PeerNode) → peer_at peers i ≡ Some p
      → IsAllowedOf peers h e.node e.event → e.node ≡ node_of r i
      → Allowed (setup_at r p) (looks (setup_at r p) (half r i h)) e.event
  allowed_half e h i r p there a node =
      (let same = same_half a.role r a.number i (sym a.is ∙ node) in
      and-some (peer_at peers i) p (λ q. Allowed (setup_at r q) (looks (setup_at r q) (half r i h)) e.event) there
      (subst (λ (k : ℕ). IsAllowedAt peers h k r e.event) same.number
      (subst (λ (q : Role). IsAllowedAt peers h a.number q e.event) same.role a.allowed)))

  pub legal_half : (h : List Noted) (i : ℕ) (r : Role) (p : PeerNode) → peer_at peers i ≡ Some p → AreAllowed h
      → Legal (setup_at r p) (half r i h)
  legal_half [] i r p there a = tt
  legal_half (e ∷ h) i r p there a = of (e.node == node_of r i) refl (legal_half h i r p there a.1)
    where
      of : (b : Bool) → (e.node == node_of r i) ≡ b → Legal (setup_at r p) (half r i h)
          → Legal (setup_at r p) (if b then e.event ∷ half r i h else half r i h)
      of false same rest = rest
      of true same rest = (allowed_half e h i r p there a.0 (same_number e.node (node_of r i) same), rest)
