-- What comes on a connection between peers was given to it by the other end.
use Rattle.std.proofs.Common.{◌≡◌, ℕ, ◌==◌, List, [], ◌∷◌, Option, Some, None, Ok}
use Rattle.std.proofs.Common.{refl, ◌∙◌, ap, sym, subst, arith}
use Rattle.std.specs.Prelude.{IfSome}
use Rattle.rx_model.specs.declared.answers.Took.TheVariants as tooks
use Rattle.rx_model.specs.declared.event.Event.{Event}
use Rattle.rx_model.specs.declared.event.Event.TheVariants as events
use Rattle.rx_model.specs.declared.event.Noted.{Noted}
use Rattle.rx_model.specs.declared.names.Host.{Host}
use Rattle.rx_model.specs.Message.{Message}
use Rattle.rx_model.specs.Reading.{reading_of}
use Rattle.rx_rules.specs.Rules.{Legal}
use Rattle.rx_law.specs.Worlds.{CarriedOn, ComesOn, Gave}
use Rattle.rx_law.proofs.Joint.{legal-before}
use Rattle.rx_law.proofs.World.{if-some}
use Rattle.rx_law.proofs.WorldTimed.{found-and}
use Rattle.rx_peer.specs.declared.role.Role.{Role}
use Rattle.rx_peer.specs.declared.role.Role.TheVariants as roles
use Rattle.rx_peer.specs.PeerWorlds.{AreOfHalves, PeerConnection, GaveAs, IsFor, IsOfHalf, IsPeer, PeerNode}
use Rattle.rx_peer.specs.PeerWorlds.{ends_of, half, peer_at, setup_at}
use Rattle.rx_peer.specs.Roles.{node_of, half_of}
use Rattle.rx_peer.proofs.Flags.{gave_other, other}

-- ---- the numbers of nodes

-- a node is one half of one peer
pub record SameHalf (q r : Role) (i j : ℕ) : Type 0 where
  pub role : q ≡ r
  pub number : i ≡ j

pub same_half : (q r : Role) (i j : ℕ) → node_of q i ≡ node_of r j → SameHalf q r i j
same_half roles.Caller roles.Caller i j is = record { role = refl; number = omega arith }
same_half roles.Served roles.Served i j is = record { role = refl; number = omega arith }
same_half roles.Caller roles.Served i j is = absurd (omega arith)
same_half roles.Served roles.Caller i j is = absurd (omega arith)

some_is : {X : Type 0} (a b : X) → Some a ≡ Some b → a ≡ b
some_is a b is = cc

-- an event of a half is one that this half of the peer may take
of_half : (peers : List PeerNode) (e : Noted) (h : List Noted) (r : Role) (i : ℕ) (p : PeerNode) → IsOfHalf peers e h
    → e.node ≡ node_of r i → peer_at peers i ≡ Some p → IsFor peers p.host r h e.event
of_half peers e h r i p is node there =
    let found = found-and (peer_at peers is.number) (λ p. IsFor peers p.host is.role h e.event) is.takes in
    let same = same_half is.role r is.number i (sym is.node ∙ node) in
    let peer : found.0 ≡ p = some_is found.0 p (sym found.1 ∙ ap (peer_at peers) same.number ∙ there) in
    subst (λ (q : Role). IsFor peers p.host q h e.event) same.role
    (subst (λ (q : PeerNode). IsFor peers q.host is.role h e.event) peer found.2)

-- ---- the halves that gave

-- what holds of each peer
abbrev pub ArePeers : List PeerNode → Type 0
ArePeers peers = (i : ℕ) → IfSome (peer_at peers i) IsPeer

-- no two share an address
abbrev pub AreApart : List PeerNode → Type 0
AreApart peers = (i j : ℕ) → IfSome (peer_at peers i) (λ p. IfSome (peer_at peers j) (λ q. p.host ≡ q.host → i ≡ j))

-- each half has a legal side
abbrev pub AreLegal : List PeerNode → List Noted → Type 0
AreLegal peers h = (i : ℕ) (r : Role) → IfSome (peer_at peers i) (λ p. Legal (setup_at r p) (half r i h))

pub legal_before : (peers : List PeerNode) (e : Noted) (h : List Noted) → AreLegal peers (e ∷ h) → AreLegal peers h
legal_before peers e h legal i r = of (peer_at peers i) (legal i r)
  where
    of : (o : Option PeerNode) → IfSome o (λ p. Legal (setup_at r p) (half r i (e ∷ h)))
        → IfSome o (λ p. Legal (setup_at r p) (half r i h))
    of None legal = tt
    of (Some p) legal = legal-before (setup_at r p) (e.node == node_of r i) e.event (half r i h) legal

same_other : (q r : Role) → other q ≡ other r → q ≡ r
same_other roles.Caller roles.Caller is = refl
same_other roles.Served roles.Served is = refl
same_other roles.Caller roles.Served is = absurd cc
same_other roles.Served roles.Caller is = absurd cc

module _ (peers : List PeerNode) (j : ℕ) (q : PeerNode) (h : List Noted) (r : Role) (to : Host) (bytes : List ℕ)
    (m : Message) where
  -- what was given at the address of a peer was given by this peer, by the half that gives to the one that it is for
  half_gave : ArePeers peers → AreApart peers → AreLegal peers h → peer_at peers j ≡ Some q → reading_of bytes ≡ Ok m
      → half_of bytes ≡ other r → GaveAs peers q.host to bytes h → Gave to bytes (half r j h)
  half_gave are apart legal there reads is gave =
      let n = found-and (peer_at peers gave.number) (λ p. p.host ≡ q.host) gave.sender in
      let number : gave.number ≡ j =
      if-some (peer_at peers j) q (λ o. n.0.host ≡ o.host → gave.number ≡ j) there
      (if-some (peer_at peers gave.number) n.0 (λ p. IfSome (peer_at peers j)
      (λ o. p.host ≡ o.host → gave.number ≡ j)) n.1 (apart gave.number j)) n.2 in
      let told : half_of bytes ≡ other gave.role =
      gave_other gave.role n.0 (half gave.role gave.number h) to bytes m
      (if-some (peer_at peers gave.number) n.0 IsPeer n.1 (are gave.number))
      (if-some (peer_at peers gave.number) n.0 (λ p. Legal (setup_at gave.role p) (half gave.role gave.number h)) n.1
      (legal gave.number gave.role)) gave.gave reads in
      subst (λ (k : ℕ). Gave to bytes (half r k h)) number
      (subst (λ (o : Role). Gave to bytes (half o gave.number h)) (same_other gave.role r (sym told ∙ is)) gave.gave)

-- ---- one connection

module _ (peers : List PeerNode) (b : PeerConnection peers) (are : ArePeers peers) (apart : AreApart peers)
    (host : b.connection.host ≡ b.from.host) where
  at-served : (h : List Noted) (e : Event) → AreLegal peers h → IsFor peers b.to.host roles.Served h e
      → ComesOn b.connection b.connection.host e
      (λ bytes. Gave b.to.host bytes (half roles.Caller b.caller h))
  at-served h (events.Taken from bytes tooks.Foreign) legal is = tt
  at-served h (events.Taken from bytes got) legal is = λ sender speaks.
      half_gave peers b.caller b.from h roles.Caller b.to.host bytes speaks.message are apart legal b.from_is
      speaks.reads
      (sym is.0) (subst (λ (a : Host). GaveAs peers a b.to.host bytes h) (sender ∙ host) is.1)
  at-served h _ legal is = tt

  at-caller : (h : List Noted) (e : Event) → AreLegal peers h → IsFor peers b.from.host roles.Caller h e
      → ComesOn b.connection b.to.host e
      (λ bytes. Gave b.connection.host bytes (half roles.Served b.served h))
  at-caller h (events.Taken from bytes tooks.Foreign) legal is = tt
  at-caller h (events.Taken from bytes got) legal is = λ sender speaks.
      half_gave peers b.served b.to h roles.Served b.connection.host bytes speaks.message are apart legal b.to_is
      speaks.reads (sym is.0)
      (subst (λ (a : Host). GaveAs peers b.to.host a bytes h) (sym host)
      (subst (λ (a : Host). GaveAs peers a b.from.host bytes h) sender is.1))
  at-caller h _ legal is = tt

  pub carried_on : (h : List Noted) → AreLegal peers h → AreOfHalves peers h → CarriedOn (ends_of peers b) h
  carried_on [] legal halves = tt
  carried_on (e ∷ h) legal halves =
      let before = legal_before peers e h legal in (
        λ here. at-served h e.event before
            (of_half peers e h roles.Served b.served b.to halves.0 here b.to_is),
        λ here. at-caller h e.event before
            (of_half peers e h roles.Caller b.caller b.from halves.0 here b.from_is),
        carried_on h before halves.1,
      )
