-- Data that a server takes was given by the call's client, which has that call.
use Rattle.std.proofs.Common.{◌≡◌, ◌≢◌, ◌≤◌, ◌<◌, ◌⊎◌, ℕ, ℤ, List, [], ◌∷◌, Option, Some, None, Ok, Contains, slice_get}
use Rattle.std.proofs.Common.{IfSome, true, option_map, refl, inl, inr, ◌∙◌, ap, sym, subst, arith}
use Rattle.rx_model.specs.declared.event.Event.{Event}
use Rattle.rx_model.specs.declared.event.Noted.{Noted}
use Rattle.rx_model.specs.declared.names.CallName.{CallName}
use Rattle.rx_model.specs.declared.names.Host.{Host}
use Rattle.rx_model.specs.declared.wire.TheConstants.{RX_INVALID_OPERATION}
use Rattle.rx_model.specs.Body as bodies
use Rattle.rx_model.specs.Message.{Message}
use Rattle.rx_model.specs.Names.{Connection, Channel, channel_of, connection_of, name_of}
use Rattle.rx_model.specs.Reading.{reading_of}
use Rattle.rx_rules.specs.After.{looks}
use Rattle.rx_rules.specs.Items.{poll_answer}
use Rattle.rx_rules.specs.Life.{is_live}
use Rattle.rx_rules.specs.Looks.{CallRecord, Looks, call_at, conn_at, is_call}
use Rattle.rx_rules.specs.Records.{silenced, unless_silent}
use Rattle.rx_rules.specs.Rules.{AllowedAt, Legal}
use Rattle.rx_rules.specs.Setup.{Setup, Client, FitsSetup, IsServer, named}
use Rattle.rx_rules.proofs.CallsLaws.{call_at-on_calls}
use Rattle.rx_rules.proofs.ConnsLaws.{number_of}
use Rattle.rx_history.specs.Givings.{GivesItem, GivesStray}
use Rattle.rx_history.specs.Sides.{Node, side, GivesTo}
use Rattle.rx_law.specs.Worlds.{AreApart, AreNodes, Gave, bag}
use Rattle.rx_history.proofs.ClientHistory.{client-calls}
use Rattle.rx_history.proofs.Given.GivenLaws.{silent-name}
use Rattle.rx_history.proofs.Given.GivingItems.{item_name}
use Rattle.rx_history.proofs.Given.Givings.{next_is, poll_gives}
use Rattle.rx_law.proofs.Joint.{client-name, gives-at, polled-is, server-name}
use Rattle.rx_history.proofs.Order.OrderlyHistory.{orderly_history}
use Rattle.rx_history.proofs.Plain.PlainBodies.{IsSent}
use Rattle.rx_history.proofs.Laws.SoundLaws.{Below}
use Rattle.rx_law.proofs.World.{Giver, giver-client, if-some, contains-in, giver}
use Rattle.rx_plan.proofs.Aborts.AbortCauses.{LaterBy}
use Rattle.rx_plan.proofs.ClientEnds.{IsThere, there_stays}

module _ (s : Setup) (host : Host) (epoch : ℕ) (kind : s.kind ≡ Client host epoch) (fits : FitsSetup s) where
  unsilenced : (l : Looks) (c : CallName) (k : CallRecord) → call_at (silenced l) c ≡ Some k → IsThere l c
  unsilenced l c k is =
      of (call_at l c) refl (sym (call_at-on_calls c (unless_silent l.now) l (silent-name l.now)) ∙ is)
    where
      of : (o : Option CallRecord) → call_at l c ≡ o → option_map (unless_silent l.now) o ≡ Some k → IsThere l c
      of None is never = absurd cc
      of (Some j) is there = record { call = j; there = is }

  -- data that a poll gives is of a call that is there
  poll_there : (h : List Event) (to : Host) (bytes : List ℕ) (m : Message) (payload : List ℕ) → Legal s h
      → poll_answer s (looks s h) ≡ Some (to, bytes) → reading_of bytes ≡ Ok m → m.body ≡ bodies.Chunk payload
      → IsThere (looks s h) (named s to m)
  poll_there h to bytes m payload legal answer reads chunk =
      let g = poll_gives s h fits legal to bytes answer in
      let same : g.message ≡ m = (let one : Ok g.message ≡ Ok m = sym g.read ∙ reads in cc) in
      of (subst (λ (n : Message). GivesStray (looks s h) to n ⊎ GivesItem s (looks s h) to n) same g.owed)
    where
      of : GivesStray (looks s h) to m ⊎ GivesItem s (looks s h) to m → IsThere (looks s h) (named s to m)
      of (inl g) =
          absurd (let never : bodies.Chunk payload ≡ bodies.Abort RX_INVALID_OPERATION =
          sym chunk ∙ ap (λ (n : Message). n.body) g.is in cc)
      of (inr g) =
          (let body : g.item.body ≡ bodies.Chunk payload = sym (ap (λ (n : Message). n.body) g.is) ∙ chunk in
          let sent = (next_is s h fits legal g.item g.next).sent (subst IsSent (sym body) tt) in
          subst (IsThere (looks s h)) (sym (item_name s h fits legal to m g))
          (unsilenced (looks s h) g.item.name sent.call sent.there))

  pub gave_there : (h : List Event) (to : Host) (bytes : List ℕ) (m : Message) (payload : List ℕ) → Legal s h
      → reading_of bytes ≡ Ok m → m.body ≡ bodies.Chunk payload → Gave to bytes h
      → IsThere (looks s h) (named s to m)
  gave_there [] to bytes m payload legal reads chunk gave = absurd gave
  gave_there (e ∷ h) to bytes m payload legal reads chunk gave =
      there_stays s host epoch kind fits e h (named s to m) legal
      (by gave (λ before. gave_there h to bytes m payload legal.1 reads chunk before))
    where
      by : GivesTo to bytes e ⊎ Gave to bytes h → (Gave to bytes h → IsThere (looks s h) (named s to m))
          → IsThere (looks s h) (named s to m)
      by (inl gives) earlier =
          (let g = gives-at to bytes e gives in
          let answer = polled-is s.kind s (looks s h) g.0
          (subst (λ (x : Event). AllowedAt s.kind s (looks s h) x) g.1 legal.0) in
          poll_there h to bytes m payload legal.1 (sym answer ∙ g.2) reads chunk)
      by (inr gave) earlier = earlier gave

  -- no call that is there comes later on its channel than one that lives
  pub none_later : (h : List Event) (c d : CallName) → Legal s h
      → is_call (λ k. is_live k.life) (call_at (looks s h) c) ≡ true → IsThere (looks s h) d
      → channel_of d ≡ channel_of c → c.number < d.number → ⊥
  none_later h c d legal living there on above =
      let l : Looks = looks s h in
      let latest : number_of (conn_at l (connection_of c)) c.chan ≡ c.number =
      ((orderly_history s h legal).latest c living).number in
      let same : number_of (conn_at l (connection_of d)) d.chan ≡ number_of (conn_at l (connection_of c)) c.chan =
      ap (λ (ch : Channel). number_of (conn_at l ch.connection) ch.chan) on in
      let low : d.number ≤ number_of (conn_at l (connection_of d)) d.chan =
      subst (λ (o : Option CallRecord). Below o d.number (number_of (conn_at l (connection_of d)) d.chan)) there.there
      ((client-calls s host epoch h kind fits legal).sound d).below in
      omega arith

-- ---- a client's connection in a world

module _ (nodes : List Node) (k : ℕ) (client server : Node) (y : Connection) (there : slice_get nodes k ≡ Some client)
    (kind : client.setup.kind ≡ Client y.host y.epoch) (first : slice_get nodes 0 ≡ Some server) (are : AreNodes nodes)
    (apart : (i j : ℕ) → i ≢ j → IfSome (slice_get nodes i) (λ n. IfSome (slice_get nodes j)
    (λ o. AreApart n.setup.kind o.setup.kind))) where
  pub later_there : (h : List Noted) (from : Host) (bytes : List ℕ) (c : CallName) (code : ℤ)
      → ((j : ℕ) (n : Node) → slice_get nodes j ≡ Some n → Legal n.setup (side j h)) → connection_of c ≡ y
      → (b : LaterBy server.setup (looks server.setup (side 0 h)) from bytes c code) → IsServer server.setup.kind
      → Contains (bag nodes h) (record { from = from; to = server.host; bytes = bytes })
      → IsThere (looks client.setup (side k h)) (named server.setup from b.message)
  later_there h from bytes c code legal on b is_server contains =
      subst (IsThere (looks client.setup (side k h)))
      (client-name client.setup y server.host b.message kind
      ∙ ap (λ (z : Host). name_of z b.message) (sym host) ∙ sym own)
      (gave_there client.setup y.host y.epoch kind fits (side k h) server.host bytes b.message b.payload
      (legal k client there) b.reads b.chunk gave)
    where
      own : named server.setup from b.message ≡ name_of from b.message
      own = server-name server.setup from b.message is_server

      at : connection_of (named server.setup from b.message) ≡ y
      at = ap (λ (ch : Channel). ch.connection) b.on ∙ on

      host : from ≡ y.host
      host = ap (λ (d : CallName). d.host) (sym own) ∙ ap (λ (z : Connection). z.host) at

      g : Giver nodes (record { from = from; to = server.host; bytes = bytes }) h
      g = giver nodes (record { from = from; to = server.host; bytes = bytes }) h
          (contains-in (record { from = from; to = server.host; bytes = bytes }) (bag nodes h) contains.0 contains.1
          contains.2)

      gave : Gave server.host bytes (side k h)
      gave =
          subst (λ (j : ℕ). Gave server.host bytes (side j h))
          (giver-client nodes k client server y there kind first are apart h from bytes b.message b.payload
          (looks server.setup (side 0 h)) g.index g.node g.there g.host (legal g.index g.node g.there) g.gave b.reads
          b.chunk b.front at) g.gave

      fits : FitsSetup client.setup
      fits = if-some (slice_get nodes k) client (λ o. FitsSetup o.setup) there (are.fits k)
