-- In a world each message of a client's connection that is judged at one of its ends was given by the other:
-- acknowledgements as well as data.
use Rattle.std.proofs.Common.{◌≡◌, ◌≢◌, ◌⊎◌, ◌==◌, ◌<◌, ℕ, Bool, true, false, List, [], ◌∷◌}
use Rattle.std.proofs.Common.{Some, None, Ok, Contains, slice_get, IfSome, refl, inl, inr, ◌∙◌, ap, sym}
use Rattle.std.proofs.Common.{subst, ⊎_elim}
use Rattle.rx_model.specs.declared.answers.Took.TheVariants as tooks
use Rattle.rx_model.specs.declared.event.Event.{Event}
use Rattle.rx_model.specs.declared.event.Event.TheVariants as events
use Rattle.rx_model.specs.declared.event.Noted.{Noted}
use Rattle.rx_model.specs.declared.names.CallName.{CallName}
use Rattle.rx_model.specs.declared.names.Host.{Host}
use Rattle.rx_model.specs.declared.wire.TheConstants.{CLIENT_INITIATED}
use Rattle.rx_model.specs.Message.{Message, has_flag}
use Rattle.rx_model.specs.Names.{Connection, connection_of, name_of}
use Rattle.rx_model.specs.Reading.{reading_of}
use Rattle.rx_model.proofs.NameLaws.{number_itself, same_number}
use Rattle.rx_rules.specs.After.{looks}
use Rattle.rx_rules.specs.Items.{poll_answer}
use Rattle.rx_rules.specs.Judging.{outer_row}
use Rattle.rx_rules.specs.Looks.{Looks}
use Rattle.rx_rules.specs.Rules.{AllowedAt, Legal}
use Rattle.rx_rules.specs.Setup.{Setup, Kind, Server, Client, FitsSetup, IsServer, is_client, named}
use Rattle.rx_history.specs.Givings.{GivesItem, GivesStray}
use Rattle.rx_law.specs.Promises.{at_client, at_server, ends_in}
use Rattle.rx_history.specs.Sides.{Node, side, IsClientAt}
use Rattle.rx_law.specs.Worlds.{AreApart, AreNodes, Carried, Datagram, Gave, IsFrom, TwoEnds, bag}
use Rattle.rx_history.proofs.Data.{OwnName, same_message}
use Rattle.rx_history.proofs.Given.GivingItems.{item_name}
use Rattle.rx_history.proofs.Given.Givings.{next_is, poll_gives}
use Rattle.rx_law.proofs.Joint.{gives-at, legal-before, polled-is, server-name}
use Rattle.rx_law.proofs.World.{Giver, at-home, client-address, flagged-any, flagged-server, gave-mine, giver-server}
use Rattle.rx_law.proofs.World.{In, contains-in, giver}
use Rattle.rx_law.proofs.World.{if-some}

-- ---- what came

-- whatever message of the connection an event judges was given; one that is answered Foreign is of no concern
abbrev pub JudgedCame : Setup → Looks → Connection → Event → (List ℕ → Type 0) → Type 0
JudgedCame s l y (events.Taken from bytes got) Wanted =
    (m : Message) → (got ≡ tooks.Foreign → ⊥) → reading_of bytes ≡ Ok m → outer_row s s.kind l from m ≡ None
    → connection_of (named s from m) ≡ y → Wanted bytes
JudgedCame s l y _ Wanted = Unit {0}

-- at either end by the other, with each event of a joint history
abbrev pub CameAll : TwoEnds → List Noted → Type 0
CameAll x [] = Unit {0}
CameAll x (e ∷ h) =
    (e.node ≡ x.server → JudgedCame x.server_setup (at_server x h) x.connection e.event
    (λ bytes. Gave x.server_host bytes (side x.client h)))
    × (e.node ≡ x.client → JudgedCame x.client_setup (at_client x h) x.connection e.event
    (λ bytes. Gave x.connection.host bytes (side x.server h)))
    × CameAll x h

-- ---- who gave a datagram

-- ---- a client's messages have its name

no_stray : (s : Setup) (l : Looks) (to : Host) (m : Message) → is_client s.kind ≡ true
    → has_flag CLIENT_INITIATED m.flags ≡ is_client s.kind → GivesStray l to m → ⊥
no_stray s l to m client flag g =
    let none : has_flag CLIENT_INITIATED 0 ≡ is_client s.kind =
    ap (λ (n : Message). has_flag CLIENT_INITIATED n.flags) (sym g.is) ∙ flag in
    let never : false ≡ true = none ∙ client in
    cc

polled_own : (s : Setup) (h : List Event) (to : Host) (bytes : List ℕ) (m : Message) → FitsSetup s → Legal s h
    → is_client s.kind ≡ true → reading_of bytes ≡ Ok m → has_flag CLIENT_INITIATED m.flags ≡ is_client s.kind
    → poll_answer s (looks s h) ≡ Some (to, bytes) → OwnName s.kind (named s to m)
polled_own s h to bytes m fits legal client reads flag is =
    let p = poll_gives s h fits legal to bytes is in
    let same : p.message ≡ m = same_message p.message m (sym p.read ∙ reads) in
    ⊎_elim
    (λ (g : GivesStray (looks s h) to p.message).
    absurd (no_stray s (looks s h) to m client flag
    (subst (λ (n : Message). GivesStray (looks s h) to n) same g)))
    (λ (g : GivesItem s (looks s h) to p.message).
    subst (OwnName s.kind) (sym (item_name s h fits legal to p.message g) ∙ ap (named s to) same)
    (next_is s h fits legal g.item g.next).name.own) p.owed

pub gave_own : (s : Setup) (h : List Event) (to : Host) (bytes : List ℕ) (m : Message) → FitsSetup s → Legal s h
    → is_client s.kind ≡ true → reading_of bytes ≡ Ok m → Gave to bytes h → OwnName s.kind (named s to m)
gave_own s [] to bytes m fits legal client reads gave = absurd gave
gave_own s (e ∷ h) to bytes m fits legal client reads (inr gave) =
    gave_own s h to bytes m fits legal.1 client reads gave
gave_own s (e ∷ h) to bytes m fits legal client reads (inl gives) =
    let g = gives-at to bytes e gives in
    let answer = polled-is s.kind s (looks s h) g.0
    (subst (λ (x : Event). AllowedAt s.kind s (looks s h) x) g.1 legal.0) in
    polled_own s h to bytes m fits legal.1 client reads
    (gave-mine s (e ∷ h) to bytes m fits legal (inl gives) reads).flag (sym answer ∙ g.2)

-- ---- a client's connection in a world

module _ (nodes : List Node) (k : ℕ) (client server : Node) (y : Connection) (there : slice_get nodes k ≡ Some client)
    (kind : client.setup.kind ≡ Client y.host y.epoch) (first : slice_get nodes 0 ≡ Some server) (are : AreNodes nodes)
    (apart : (i j : ℕ) → i ≢ j → IfSome (slice_get nodes i) (λ n. IfSome (slice_get nodes j)
    (λ o. AreApart n.setup.kind o.setup.kind))) where
  -- two clients of one host and epoch are one
  one_client : (j : ℕ) (n : Node) (a : Host) (b : ℕ) → slice_get nodes j ≡ Some n → n.setup.kind ≡ Client a b
      → a ≡ y.host → b ≡ y.epoch → j ≡ k
  one_client j n a b at is host epoch = of (j == k) refl
    where
      differ : (j == k) ≡ false → j ≢ k
      differ other same =
          (let yes : (j == k) ≡ true = ap (λ (i : ℕ). i == k) same ∙ number_itself k in
          let never : true ≡ false = sym yes ∙ other in cc)

      two : (j == k) ≡ false → AreApart n.setup.kind client.setup.kind
      two other =
          if-some (slice_get nodes k) client (λ o. AreApart n.setup.kind o.setup.kind) there
          (if-some (slice_get nodes j) n (λ m. IfSome (slice_get nodes k) (λ o. AreApart m.setup.kind o.setup.kind)) at
          (apart j k (differ other)))

      of : (t : Bool) → (j == k) ≡ t → j ≡ k
      of true same = same_number j k same
      of false other =
          (let named : AreApart (Client a b) (Client y.host y.epoch) =
          subst (λ (q : Kind). AreApart (Client a b) q) kind
          (subst (λ (q : Kind). AreApart q client.setup.kind) is (two other)) in
          absurd (named (host, epoch)))

  -- what of the connection is judged at the server was given by the client
  server_came : (h : List Noted) (l : Looks) (from : Host) (bytes : List ℕ) (m : Message)
      → ((j : ℕ) (n : Node) → slice_get nodes j ≡ Some n → Legal n.setup (side j h)) → IsServer server.setup.kind
      → Contains (bag nodes h) (record { from = from; to = server.host; bytes = bytes })
      → reading_of bytes ≡ Ok m → outer_row server.setup server.setup.kind l from m ≡ None
      → connection_of (named server.setup from m) ≡ y → Gave server.host bytes (side k h)
  server_came h l from bytes m legal is_server contains reads front at =
      subst (λ (j : ℕ). Gave server.host bytes (side j h))
      (by (at-home nodes k client server y there kind first are apart g.index g.node g.there)) g.gave
    where
      g : Giver nodes (record { from = from; to = server.host; bytes = bytes }) h
      g = giver nodes (record { from = from; to = server.host; bytes = bytes }) h
          (contains-in (record { from = from; to = server.host; bytes = bytes }) (bag nodes h) contains.0 contains.1
          contains.2)

      fits : FitsSetup g.node.setup
      fits = if-some (slice_get nodes g.index) g.node (λ o. FitsSetup o.setup) g.there (are.fits g.index)

      clients : is_client g.node.setup.kind ≡ true
      clients =
          sym (gave-mine g.node.setup (side g.index h) server.host bytes m fits (legal g.index g.node g.there) g.gave
          reads).flag
          ∙ flagged-server nodes k client server y there kind first are apart from m server.setup.kind is_server
          (flagged-any nodes k client server y there kind first are apart l from m server.setup.kind is_server front)

      own : named server.setup from m ≡ name_of from m
      own = server-name server.setup from m is_server

      host : from ≡ y.host
      host = ap (λ (n : CallName). n.host) (sym own) ∙ ap (λ (z : Connection). z.host) at

      epoch : m.epoch ≡ y.epoch
      epoch = ap (λ (n : CallName). n.epoch) (sym own) ∙ ap (λ (z : Connection). z.epoch) at

      no_client : (q : Kind) → IsServer q → is_client q ≡ true → ⊥
      no_client (Server service nonces) serves is = absurd cc
      no_client (Client a b) serves is = serves

      home_is : (q : Kind) → g.node.setup.kind ≡ q → is_client q ≡ true → IsClientAt g.node.host q
          → OwnName q (named g.node.setup server.host m) → g.index ≡ k
      home_is (Server service nonces) is clients home mine = absurd cc
      home_is (Client a b) is clients home mine =
          one_client g.index g.node a b g.there is (home ∙ g.host ∙ host) (sym mine.1 ∙ epoch)

      by : (g.index ≡ 0) ⊎ IsClientAt g.node.host g.node.setup.kind → g.index ≡ k
      by (inl zero') =
          absurd (let same : Some g.node ≡ Some server = sym g.there ∙ ap (slice_get nodes) zero' ∙ first in
          let one : g.node ≡ server = cc in
          no_client g.node.setup.kind (subst (λ (n : Node). IsServer n.setup.kind) (sym one) is_server) clients)
      by (inr home) =
          home_is g.node.setup.kind refl clients home
          (gave_own g.node.setup (side g.index h) server.host bytes m fits (legal g.index g.node g.there) clients reads
          g.gave)

  -- and at the client by the server
  client_came : (h : List Noted) (l : Looks) (from : Host) (bytes : List ℕ) (m : Message)
      → ((j : ℕ) (n : Node) → slice_get nodes j ≡ Some n → Legal n.setup (side j h))
      → Contains (bag nodes h) (record { from = from; to = client.host; bytes = bytes })
      → reading_of bytes ≡ Ok m → outer_row client.setup client.setup.kind l from m ≡ None
      → Gave y.host bytes (side 0 h)
  client_came h l from bytes m legal contains reads front =
      let d : Datagram = record { from = from; to = client.host; bytes = bytes } in
      let g = giver nodes d h (contains-in d (bag nodes h) contains.0 contains.1 contains.2) in
      let zero' = giver-server nodes k client server y there kind first are apart h from bytes m l g.index g.node
      g.there
      (legal g.index g.node g.there) g.gave reads front in
      subst (λ (a : Host). Gave a bytes (side 0 h))
      (sym (client-address nodes k client server y there kind first are apart))
      (subst (λ (j : ℕ). Gave client.host bytes (side j h)) zero' g.gave)

  pub world_came_all : (h : List Noted) → Carried nodes h → IsServer server.setup.kind
      → ((j : ℕ) (n : Node) → slice_get nodes j ≡ Some n → Legal n.setup (side j h))
      → CameAll (ends_in y k client server) h
  world_came_all [] carried is_server legal = tt
  world_came_all (e ∷ h) carried is_server legal =
      let before : (j : ℕ) (n : Node) → slice_get nodes j ≡ Some n → Legal n.setup (side j h) =
      λ j n is. legal-before n.setup (e.node == j) e.event (side j h) (legal j n is) in (
        λ here. at_server_end e.event
            (if-some (slice_get nodes e.node) server (λ n. IsFrom (bag nodes h) n.host e.event)
            (ap (slice_get nodes) here ∙ first) carried.0) before,
        λ here. at_client_end e.event
            (if-some (slice_get nodes e.node) client (λ n. IsFrom (bag nodes h) n.host e.event)
            (ap (slice_get nodes) here ∙ there) carried.0) before,
        world_came_all h carried.1 is_server before,
      )
    where
      at_server_end : (event : Event) → IsFrom (bag nodes h) server.host event
          → ((j : ℕ) (n : Node) → slice_get nodes j ≡ Some n → Legal n.setup (side j h))
          → JudgedCame server.setup (at_server (ends_in y k client server) h) y event
          (λ bytes. Gave server.host bytes (side k h))
      at_server_end (events.Taken from bytes got) carried legal =
          λ m other reads front at. server_came h (at_server (ends_in y k client server) h) from bytes m legal is_server
          carried reads front at
      at_server_end _ carried legal = tt

      at_client_end : (event : Event) → IsFrom (bag nodes h) client.host event
          → ((j : ℕ) (n : Node) → slice_get nodes j ≡ Some n → Legal n.setup (side j h))
          → JudgedCame client.setup (at_client (ends_in y k client server) h) y event
          (λ bytes. Gave y.host bytes (side 0 h))
      at_client_end (events.Taken from bytes got) carried legal =
          λ m other reads front at. client_came h (at_client (ends_in y k client server) h) from bytes m legal carried
          reads
          front
      at_client_end _ carried legal = tt
