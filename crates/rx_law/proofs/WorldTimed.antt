-- A world whose datagrams are never old: every call of every client has the law, whatever its server forgets.
use Rattle.std.proofs.Common.{◌≡◌, ◌≢◌, ◌==◌, ℕ, zero, suc, cond, Bool, true, List, [], ◌∷◌, Option, Some, None}
use Rattle.std.proofs.Common.{refl, ◌∙◌, ap, sym, subst, inl, inr}
use Rattle.std.specs.Prelude.{IfSome, IsSomeAnd, slice_get}
use Rattle.rx_model.specs.declared.event.Event.{Event}
use Rattle.rx_model.specs.declared.event.Event.TheVariants as events
use Rattle.rx_model.specs.declared.event.Noted.{Noted}
use Rattle.rx_model.specs.declared.names.Host.{Host}
use Rattle.rx_rules.specs.Looks.{Looks}
use Rattle.rx_model.specs.Names.{Connection}
use Rattle.rx_rules.specs.Rules.{Legal}
use Rattle.rx_rules.specs.Setup.{Client, FitsSetup}
use Rattle.rx_law.specs.Promises.{at_client, at_server, ends_in}
use Rattle.rx_history.specs.Sides.{Node, moment, side}
use Rattle.rx_law.specs.Times.{AreFresh, GaveLately, GoAlike, IsFresh}
use Rattle.rx_law.specs.Worlds.{AreApart, AreNodes, Gave}
use Rattle.rx_model.proofs.NameLaws.{number_itself}
use Rattle.rx_law.proofs.Joint.{legal-before}
use Rattle.rx_law.proofs.Late.{FedLately, LateAny, LateData, LateOn}
use Rattle.rx_law.proofs.World.{client-address, giver-client, giver-server, if-some, is_server, later-gave, not-first}

-- what was lately given was given
pub lately-gave : (server node : ℕ) (to : Host) (bytes : List ℕ) (now : ℕ) (h : List Noted)
    → GaveLately server node to bytes now h
    → Gave to bytes (side node h)
lately-gave server node to bytes now [] gave = absurd gave
lately-gave server node to bytes now (e ∷ h) (inl g) =
    let here : (e.node == node) ≡ true = rw g.node_is (number_itself node) in
    subst (λ (es : List Event). Gave to bytes es)
    (ap (λ (b : Bool). cond b (e.event ∷ side node h) (side node h)) (sym here)) (inl g.gives)
lately-gave server node to bytes now (e ∷ h) (inr gave) = later-gave node e h to bytes
    (lately-gave server node to bytes now h gave)

-- the node that a look-up is of
pub found-and : {X : Type 0} (o : Option X) (P : X → Type 0) → IsSomeAnd o P → (x : X) × (o ≡ Some x) × P x
found-and None P is = absurd is
found-and (Some x) P is = (x, refl, is)

module _ (nodes : List Node) (k : ℕ) (client server : Node) (y : Connection) (there : slice_get nodes k ≡ Some client)
    (kind : client.setup.kind ≡ Client y.host y.epoch) (first : slice_get nodes 0 ≡ Some server) (are : AreNodes nodes)
    (apart : (i j : ℕ) → i ≢ j → IfSome (slice_get nodes i) (λ n. IfSome (slice_get nodes j)
    (λ o. AreApart n.setup.kind o.setup.kind))) where
  late-server : (h : List Noted) (l : Looks) (e : Event) → ((j : ℕ) (n : Node) → slice_get nodes j ≡ Some n
      → Legal n.setup (side j h))
      → IsFresh nodes h server.host e → LateData server.setup l y e
      (λ bytes. GaveLately 0 k server.host bytes (moment 0 h) h)
  late-server h l (events.Taken from bytes got) legal fresh = λ m payload enter reads body front at. (
      let n = found-and (slice_get nodes fresh.node) (λ n. n.host ≡ from) fresh.sender in
      subst (λ (j : ℕ). GaveLately 0 j server.host bytes (moment 0 h) h)
      (giver-client nodes k client server y there kind first are apart h from bytes m payload l fresh.node n.0 n.1 n.2
      (legal fresh.node n.0 n.1) (lately-gave 0 fresh.node server.host bytes
      (moment 0 h) h fresh.gave) reads body front at) fresh.gave)
  late-server h l _ legal fresh = tt

  late-client : (h : List Noted) (l : Looks) (e : Event) → ((j : ℕ) (n : Node) → slice_get nodes j ≡ Some n
      → Legal n.setup (side j h))
      → IsFresh nodes h client.host e → LateAny client.setup l y e (λ bytes. GaveLately 0 0 y.host bytes (moment 0 h) h)
  late-client h l (events.Taken from bytes got) legal fresh = λ m hear reads front at. (
      let n = found-and (slice_get nodes fresh.node) (λ n. n.host ≡ from) fresh.sender in
      let zero' = giver-server nodes k client server y there kind first are apart h from bytes m l fresh.node n.0 n.1
      (legal fresh.node n.0 n.1) (lately-gave 0 fresh.node client.host bytes (moment 0 h) h fresh.gave) reads front in
      subst (λ (a : Host). GaveLately 0 0 a bytes (moment 0 h) h)
      (sym (client-address nodes k client server y there kind first are apart))
      (subst (λ (j : ℕ). GaveLately 0 j client.host bytes (moment 0 h) h) zero' fresh.gave))
  late-client h l _ legal fresh = tt

  late-world : (h : List Noted) → AreFresh nodes h → ((j : ℕ) (n : Node) → slice_get nodes j ≡ Some n
      → Legal n.setup (side j h))
      → LateOn (ends_in y k client server) h
  late-world [] fresh legal = tt
  late-world (e ∷ h) fresh legal =
      let before : (j : ℕ) (n : Node) → slice_get nodes j ≡ Some n → Legal n.setup (side j h) =
      λ j n is. legal-before n.setup (e.node == j) e.event (side j h) (legal j n is) in (
        λ here. late-server h (at_server (ends_in y k client server) h) e.event before
            (if-some (slice_get nodes e.node) server (λ n. IsFresh nodes h n.host e.event)
            (ap (slice_get nodes) here ∙ first) fresh.0),
        λ here. late-client h (at_client (ends_in y k client server) h) e.event before
            (if-some (slice_get nodes e.node) client (λ n. IsFresh nodes h n.host e.event)
            (ap (slice_get nodes) here ∙ there) fresh.0),
        late-world h fresh.1 before,
      )

  alike-of : (h : List Noted) → k ≢ 0 → ((j : ℕ) → IfSome (slice_get nodes (suc j)) (λ n. GoAlike 0 (suc j) h))
      → GoAlike 0 k h
  alike-of h more alike = of k more there
    where
      of : (j : ℕ) → j ≢ 0 → slice_get nodes j ≡ Some client → GoAlike 0 j h
      of zero more at = absurd (more refl)
      of (suc j) more at = if-some (slice_get nodes (suc j)) client (λ n. GoAlike 0 (suc j) h) at (alike j)

  -- a client's connection in such a world
  pub world-lately : (h : List Noted) → ((j : ℕ) (n : Node) → slice_get nodes j ≡ Some n → Legal n.setup (side j h))
      → AreFresh nodes h
      → ((j : ℕ) → IfSome (slice_get nodes (suc j)) (λ n. GoAlike 0 (suc j) h))
      → FedLately (ends_in y k client server) h
  world-lately h legal fresh alike =
      record {
        apart = not-first nodes k client server y there kind first are apart;
        client_kind = kind;
        server_kind = is_server nodes k client server y there kind first are apart;
        client_fits = if-some (slice_get nodes k) client (λ n. FitsSetup n.setup) there (are.fits k);
        server_fits = if-some (slice_get nodes 0) server (λ n. FitsSetup n.setup) first (are.fits 0);
        client_legal = legal k client there;
        server_legal = legal 0 server first;
        late = late-world h fresh legal;
        alike = alike-of h (not-first nodes k client server y there kind first are apart) alike;
      }
