-- An ABORT of a call that a server takes was given by the call's client, where the call had ended.
use Rattle.std.proofs.Common.{◌≡◌, ◌≢◌, ◌⊎◌, ◌<◌, ◌==◌, ℕ, ℤ, Bool, true, false, List, [], ◌∷◌}
use Rattle.std.proofs.Common.{Some, Ok, Contains, slice_get, refl, inl, inr, ◌∙◌, ap, sym}
use Rattle.std.proofs.Common.{subst, IfSome}
use Rattle.rx_model.specs.declared.event.Event.TheVariants as events
use Rattle.rx_model.specs.declared.event.Noted.{Noted}
use Rattle.rx_model.specs.declared.names.CallName.{CallName}
use Rattle.rx_model.specs.declared.names.Host.{Host}
use Rattle.rx_model.specs.Body as bodies
use Rattle.rx_model.specs.Message.{Message}
use Rattle.rx_model.specs.Names.{Connection, connection_of, name_of}
use Rattle.rx_model.specs.Reading.{reading_of}
use Rattle.rx_model.specs.Strays.{is_stray}
use Rattle.rx_model.proofs.NameLaws.{number_itself, same_number}
use Rattle.rx_rules.specs.After.{looks}
use Rattle.rx_rules.specs.Rules.{Legal}
use Rattle.rx_rules.specs.Setup.{Kind, Server, Client, FitsSetup, IsServer, is_client, named}
use Rattle.rx_history.specs.Sides.{Node, side, IsClientAt}
use Rattle.rx_law.specs.Worlds.{AreApart, AreNodes, Gave, bag}
use Rattle.rx_history.proofs.Client.{StoppedBy}
use Rattle.rx_history.proofs.Data.{OwnName}
use Rattle.rx_law.proofs.Joint.{client-name, server-name}
use Rattle.rx_law.proofs.World.{Giver, at-home, flagged-any, flagged-server, gave-mine, if-some, contains-in, giver}
use Rattle.rx_plan.proofs.Aborts.ClientAborts.{HasEnded, IsOfEnded, client_aborts}

-- ---- who gave a datagram

-- ---- a client's connection in a world

module _ (nodes : List Node) (k : ℕ) (client server : Node) (y : Connection) (there : slice_get nodes k ≡ Some client)
    (kind : client.setup.kind ≡ Client y.host y.epoch) (first : slice_get nodes 0 ≡ Some server) (are : AreNodes nodes)
    (apart : (i j : ℕ) → i ≢ j → IfSome (slice_get nodes i) (λ n. IfSome (slice_get nodes j)
    (λ o. AreApart n.setup.kind o.setup.kind))) where
  -- two clients of one host and epoch are one
  pub one_client : (j : ℕ) (n : Node) (a : Host) (b : ℕ) → slice_get nodes j ≡ Some n → n.setup.kind ≡ Client a b
      → a ≡ y.host → b ≡ y.epoch → j ≡ k
  one_client j n a b at is host epoch = of (j == k) refl
    where
      differ : (j == k) ≡ false → j ≢ k
      differ other same =
          (let yes : (j == k) ≡ true = ap (λ (i : ℕ). i == k) same ∙ number_itself k in
          let never : true ≡ false = sym yes ∙ other in cc)

      two : (j == k) ≡ false → AreApart n.setup.kind client.setup.kind
      two other =
          if-some (slice_get nodes k) client (λ o. AreApart n.setup.kind o.setup.kind) there
          (if-some (slice_get nodes j) n (λ m. IfSome (slice_get nodes k) (λ o. AreApart m.setup.kind o.setup.kind)) at
          (apart j k (differ other)))

      of : (t : Bool) → (j == k) ≡ t → j ≡ k
      of true same = same_number j k same
      of false other =
          (let named : AreApart (Client a b) (Client y.host y.epoch) =
          subst (λ (q : Kind). AreApart (Client a b) q) kind
          (subst (λ (q : Kind). AreApart q client.setup.kind) is (two other)) in
          absurd (named (host, epoch)))

  -- a client that gave an ABORT of the connection is this one
  aborter : (h : List Noted) (j : ℕ) (n : Node) (q : Kind) (bytes : List ℕ) (m : Message) (code : ℤ)
      → slice_get nodes j ≡ Some n → n.setup.kind ≡ q → is_client q ≡ true → IsClientAt n.host q
      → Legal n.setup (side j h) → n.host ≡ y.host → m.epoch ≡ y.epoch → Gave server.host bytes (side j h)
      → reading_of bytes ≡ Ok m → m.body ≡ bodies.Abort code → j ≡ k
  aborter h j n (Server service nonces) bytes m code at is clients home legal host epoch gave reads aborts = absurd cc
  aborter h j n (Client a b) bytes m code at is clients home legal host epoch gave reads aborts =
      let fits : FitsSetup n.setup = if-some (slice_get nodes j) n (λ o. FitsSetup o.setup) at (are.fits j) in
      let given : IsOfEnded n.setup a b is fits (side j h) server.host m code =
      client_aborts n.setup a b is fits (side j h) server.host bytes m code legal reads aborts gave in
      let own : OwnName (Client a b) (named n.setup server.host m) =
      subst (λ (q : Kind). OwnName q (named n.setup server.host m)) is given.own in
      one_client j n a b at is (home ∙ host) (sym own.1 ∙ epoch)

  -- whoever gave one that the server takes
  giver_is : (h : List Noted) (from : Host) (bytes : List ℕ) (c : CallName) (code : ℤ)
      → ((j : ℕ) (n : Node) → slice_get nodes j ≡ Some n → Legal n.setup (side j h)) → connection_of c ≡ y
      → (a : StoppedBy server.setup (looks server.setup (side 0 h)) from bytes c code) → IsServer server.setup.kind
      → (g : Giver nodes (record { from = from; to = server.host; bytes = bytes }) h) → from ≡ y.host
      → a.message.epoch ≡ y.epoch → g.index ≡ k
  giver_is h from bytes c code legal on a is_server g host epoch =
      by (at-home nodes k client server y there kind first are apart g.index g.node g.there)
    where
      fits : FitsSetup g.node.setup
      fits = if-some (slice_get nodes g.index) g.node (λ o. FitsSetup o.setup) g.there (are.fits g.index)

      clients : is_client g.node.setup.kind ≡ true
      clients =
          sym (gave-mine g.node.setup (side g.index h) server.host bytes a.message fits (legal g.index g.node g.there)
          g.gave a.reads).flag
          ∙ flagged-server nodes k client server y there kind first are apart from a.message server.setup.kind is_server
          (flagged-any nodes k client server y there kind first are apart (looks server.setup (side 0 h)) from a.message
          server.setup.kind is_server a.front)

      no_client : (q : Kind) → IsServer q → is_client q ≡ true → ⊥
      no_client (Server service nonces) serves is = absurd cc
      no_client (Client x z) serves is = serves

      by : (g.index ≡ 0) ⊎ IsClientAt g.node.host g.node.setup.kind → g.index ≡ k
      by (inl zero') =
          absurd (let same : Some g.node ≡ Some server = sym g.there ∙ ap (slice_get nodes) zero' ∙ first in
          let one : g.node ≡ server = cc in
          no_client g.node.setup.kind (subst (λ (n : Node). IsServer n.setup.kind) (sym one) is_server) clients)
      by (inr home) =
          aborter h g.index g.node g.node.setup.kind bytes a.message code g.there refl clients home
          (legal g.index g.node g.there) (g.host ∙ host) epoch g.gave a.reads a.body

  -- it had ended
  pub abort_ended : (h : List Noted) (from : Host) (bytes : List ℕ) (c : CallName) (code : ℤ)
      → ((j : ℕ) (n : Node) → slice_get nodes j ≡ Some n → Legal n.setup (side j h)) → connection_of c ≡ y
      → StoppedBy server.setup (looks server.setup (side 0 h)) from bytes c code → IsServer server.setup.kind
      → Contains (bag nodes h) (record { from = from; to = server.host; bytes = bytes })
      → HasEnded (looks client.setup (side k h)) c code
  abort_ended h from bytes c code legal on a is_server contains = by a.name
    where
      own : named server.setup from a.message ≡ name_of from a.message
      own = server-name server.setup from a.message is_server

      connected : (named server.setup from a.message ≡ c)
          ⊎ ((a.message.number ≡ 0) × (connection_of (named server.setup from a.message) ≡ connection_of c))
          → connection_of (name_of from a.message) ≡ y
      connected (inl same) = ap connection_of (sym own ∙ same) ∙ on
      connected (inr all) = ap connection_of (sym own) ∙ all.1 ∙ on

      host : from ≡ y.host
      host = ap (λ (z : Connection). z.host) (connected a.name)

      epoch : a.message.epoch ≡ y.epoch
      epoch = ap (λ (z : Connection). z.epoch) (connected a.name)

      g : Giver nodes (record { from = from; to = server.host; bytes = bytes }) h
      g = giver nodes (record { from = from; to = server.host; bytes = bytes }) h
          (contains-in (record { from = from; to = server.host; bytes = bytes }) (bag nodes h) contains.0 contains.1
          contains.2)

      gave : Gave server.host bytes (side k h)
      gave =
          subst (λ (j : ℕ). Gave server.host bytes (side j h))
          (giver_is h from bytes c code legal on a is_server g host epoch) g.gave

      fits : FitsSetup client.setup
      fits = if-some (slice_get nodes k) client (λ o. FitsSetup o.setup) there (are.fits k)

      given : IsOfEnded client.setup y.host y.epoch kind fits (side k h) server.host a.message code
      given =
          client_aborts client.setup y.host y.epoch kind fits (side k h) server.host bytes a.message code
          (legal k client there) a.reads a.body gave

      by : (named server.setup from a.message ≡ c)
          ⊎ ((a.message.number ≡ 0) × (connection_of (named server.setup from a.message) ≡ connection_of c))
          → HasEnded (looks client.setup (side k h)) c code
      by (inl same) =
          subst (λ (d : CallName). HasEnded (looks client.setup (side k h)) d code)
          (client-name client.setup y server.host a.message kind
          ∙ ap (λ (z : Host). name_of z a.message) (sym host) ∙ sym own ∙ same) given.ended
      by (inr all) =
          absurd (let stray : is_stray a.message a.message.body ≡ true =
          ap (is_stray a.message) a.body ∙ ap (λ (n : ℕ). n == 0) all.0 in
          let never : true ≡ false = sym stray ∙ given.some in cc)
