-- What holds of the times of a call goes on with each event of its server.
use Rattle.std.proofs.Common.{◌≡◌, ◌≢◌, ◌⊎◌, ◌<◌, ◌≤◌, ◌+◌, ℕ, nat_lt, is_some, true, List, ◌∷◌, Option, Some, None}
use Rattle.std.proofs.Common.{Ok, refl, ◌∙◌, ap, sym, subst, inl, inr, arith}
use Rattle.std.proofs.lemmas.Bool.Decides.{nat_tests}
use Rattle.rx_model.specs.declared.answers.Took.{Took}
use Rattle.rx_model.specs.declared.event.Event.{Event}
use Rattle.rx_model.specs.declared.event.Event.TheVariants as events
use Rattle.rx_model.specs.declared.event.Noted.{Noted}
use Rattle.rx_model.specs.declared.names.CallName.{CallName}
use Rattle.rx_model.specs.declared.names.Host.{Host}
use Rattle.rx_model.specs.declared.wire.TheConstants.{LIFETIME_MS}
use Rattle.rx_rules.specs.After.{after}
use Rattle.rx_model.specs.Body as bodies
use Rattle.rx_rules.specs.Looks.{CallRecord, Looks, call_at, channel_at, conn_at}
use Rattle.rx_model.specs.Message.{Message}
use Rattle.rx_model.specs.Names.{Connection, channel_of, connection_of, name_of}
use Rattle.rx_model.specs.Reading.{reading_of}
use Rattle.rx_rules.specs.Rules.{AllowedServer}
use Rattle.rx_rules.specs.Setup.{Client, IsServer, named}
use Rattle.rx_history.specs.Sides.{GivesTo, moment, with_clock}
use Rattle.rx_law.specs.Times.{GaveLately}
use Rattle.rx_law.specs.Worlds.{TwoEnds}
use Rattle.rx_rules.proofs.ConnsLaws.{channel_number, number_of}
use Rattle.rx_history.proofs.Conns.{Conns}
use Rattle.rx_law.proofs.Hears.{heard_at}
use Rattle.rx_law.proofs.Joint.{client-name, server-name}
use Rattle.rx_law.proofs.Knows.{AskedFor, AsksFor, AsksNew}
use Rattle.rx_law.proofs.Late.{LateData, Timed, soon}
use Rattle.rx_law.proofs.Learns.{server-next}

module _ (x : TwoEnds) (c : CallName) (on : connection_of c ≡ x.connection)
    (kind : x.client_setup.kind ≡ Client x.connection.host x.connection.epoch)
    (server : IsServer x.server_setup.kind) (apart : x.client ≢ x.server) where
  module _ (e : Noted) (h : List Noted) (lc ls : Looks) (now : ℕ) (here : e.node ≡ x.server) (clock : ls.now ≡ now)
      (same : now ≡ moment x.server h)
      (allowed : AllowedServer x.server_setup ls e.event) (conns : Conns x.server_setup ls) (some : 1 ≤ c.number)
      (late : LateData x.server_setup ls x.connection e.event
      (λ bytes. GaveLately x.server x.client x.server_host bytes (moment x.server h) h))
      (k : Timed x c h lc ls now) where
    -- DATA that asks for the call was given by the client
    asked-gave : (from : Host) (bytes : List ℕ) (got : Took) → e.event ≡ events.Taken from bytes got
        → (a : AskedFor x.server_setup ls from bytes got c)
        → GaveLately x.server x.client x.server_host bytes now h × (named x.client_setup x.server_host a.message ≡ c)
    asked-gave from bytes got event a =
        let comes = subst (λ (event : Event). LateData x.server_setup ls x.connection event
        (λ bytes. GaveLately x.server x.client x.server_host bytes (moment x.server h) h))
        event late in
        let gave = comes a.message a.payload a.answer a.reads a.body a.front (ap connection_of a.named_is ∙ on) in
        let own : named x.server_setup from a.message
        ≡ name_of from a.message = server-name x.server_setup from a.message server in
        let host : from ≡ x.connection.host = ap (λ (n : CallName). n.host) (sym own ∙ a.named_is)
        ∙ ap (λ (y : Connection). y.host) on in
        let name : named x.client_setup x.server_host a.message ≡ c =
        client-name x.client_setup x.connection x.server_host a.message kind
        ∙ ap (λ (q : Host). name_of q a.message) (sym host) ∙ sym own ∙ a.named_is in
        (subst (λ (t : ℕ). GaveLately x.server x.client x.server_host bytes t h) (sym same) gave, name)

    none-asked : (from : Host) (bytes : List ℕ) (got : Took) → e.event ≡ events.Taken from bytes got
        → AskedFor x.server_setup ls from bytes got c
        → nat_lt (channel_at ls (channel_of c)).number c.number ≡ true → call_at ls c ≡ None
    none-asked from bytes got event a above = of (call_at ls c) refl
      where
        below : number_of (conn_at ls (connection_of c)) c.chan < c.number
        below = (let is = channel_number ls (channel_of c) in grind (arith, nat_tests))

        of : (o : Option CallRecord) → call_at ls c ≡ o → o ≡ None
        of None is = refl
        of (Some call) is =
            absurd (
            let there : is_some (call_at ls c) ≡ true = ap (λ (o : Option CallRecord). is_some o) is in
            let g = asked-gave from bytes got event a in
            let recent = soon x c h lc ls now bytes a.message a.payload k there g.0 a.reads a.body g.1 in
            let low = below in
            elim (k.recalls.held there) as (λ t. ⊥) [
              | inl known ↦ omega arith
              | inr idle ↦ omega arith
            ])

    -- no DATA asks for a call that is there
    pub asks-new : AsksNew x.server_setup ls e.event c
    asks-new = of e.event refl
      where
        of : (event : Event) → e.event ≡ event → AsksNew x.server_setup ls event c
        of (events.Taken from bytes got) is = λ a above. none-asked from bytes got is a above
        of (events.Linked to service first got) is = λ a above. absurd a
        of (events.Called cid got) is = λ a above. absurd a
        of (events.Wrote d offered got bytes) is = λ a above. absurd a
        of (events.Shut d got) is = λ a above. absurd a
        of (events.HasRead d max got bytes) is = λ a above. absurd a
        of (events.Ended d got) is = λ a above. absurd a
        of (events.Cancelled d code got) is = λ a above. absurd a
        of (events.Accepted got) is = λ a above. absurd a
        of (events.Finished d code got) is = λ a above. absurd a
        of (events.Polled got) is = λ a above. absurd a
        of (events.Clocked n) is = λ a above. absurd a

    asked-client : AsksFor x.server_setup ls e.event c → is_some (heard_at lc c) ≡ true
    asked-client asks = of e.event refl asks
      where
        of : (event : Event) → e.event ≡ event → AsksFor x.server_setup ls event c → is_some (heard_at lc c) ≡ true
        of (events.Taken from bytes got) is a =
            (let g = asked-gave from bytes got is a in (k.gave bytes a.message a.payload now g.0 a.reads a.body g.1).0)
        of (events.Linked to service first got) is a = absurd a
        of (events.Called cid got) is a = absurd a
        of (events.Wrote d offered got bytes) is a = absurd a
        of (events.Shut d got) is a = absurd a
        of (events.HasRead d max got bytes) is a = absurd a
        of (events.Ended d got) is a = absurd a
        of (events.Cancelled d code got) is a = absurd a
        of (events.Accepted got) is a = absurd a
        of (events.Finished d code got) is a = absurd a
        of (events.Polled got) is a = absurd a
        of (events.Clocked n) is a = absurd a

    clock-later : (event : Event) → AllowedServer x.server_setup ls event → ls.now ≤ with_clock event ls.now
    clock-later (events.Clocked n) may = may.0
    clock-later (events.Linked to service first got) may = omega arith
    clock-later (events.Called cid got) may = omega arith
    clock-later (events.Wrote d offered got bytes) may = omega arith
    clock-later (events.Shut d got) may = omega arith
    clock-later (events.HasRead d max got bytes) may = omega arith
    clock-later (events.Ended d got) may = omega arith
    clock-later (events.Cancelled d code got) may = omega arith
    clock-later (events.Accepted got) may = omega arith
    clock-later (events.Finished d code got) may = omega arith
    clock-later (events.Taken from bytes got) may = omega arith
    clock-later (events.Polled got) may = omega arith

    pub server-timed : Timed x c (e ∷ h) lc (after x.server_setup e.event ls) (with_clock e.event now)
    server-timed =
        let n = server-next x.server_setup ls e.event c k.used server allowed conns some asks-new k.recalls in
        let later = n.later in
        let first = k.called_before in
        let last = k.heard_before in
        let on_time : now ≤ with_clock e.event now = subst (λ (t : ℕ). t ≤ with_clock e.event t) clock
        (clock-later e.event allowed) in
        record {
          used = n.used;
          called = k.called;
          heard = k.heard;
          recalls = n.recalls;
          called_before = omega arith;
          heard_before = omega arith;
          since = λ t there. (
              let s = k.since t there in (
                inr s.0,
                (elim s.1 as (λ y. (k.heard ≤ k.called) ⊎ (k.heard ≤ n.used + LIFETIME_MS)) [
                  | inl start ↦ inl start
                  | inr again ↦ inr (omega arith)
                ]),
              ));
          begun = λ there. (
              elim (n.begins there) as (λ y. (is_some (heard_at lc c) ≡ true) × (k.called ≤ n.used)) [
                | inl before ↦ (let b = k.begun before in let low = b.1 in (b.0, (omega arith)))
                | inr asks ↦ (let at = asks.0 in (asked-client asks.1, (omega arith)))
              ]);
          gave = λ bytes m payload at gave reads chunk name. gave-still bytes m payload at gave reads chunk name;
          told = λ bytes m at gave reads name. told-now n.used later bytes m at
              (λ gives. n.told x.connection.host bytes m gives reads name) gave reads name;
        }
      where
        gave-still : (bytes : List ℕ) (m : Message) (payload : List ℕ) (at : ℕ)
            → GaveLately x.server x.client x.server_host bytes at (e ∷ h)
            → reading_of bytes ≡ Ok m → m.body ≡ bodies.Chunk payload → named x.client_setup x.server_host m ≡ c
            → (is_some (heard_at lc c) ≡ true) × (at < k.heard + 192000)
        gave-still bytes m payload at (inl g) reads chunk name = absurd (apart (sym g.node_is ∙ here))
        gave-still bytes m payload at (inr gave) reads chunk name = k.gave bytes m payload at gave reads chunk name

        told-now : (used : ℕ) → k.used ≤ used → (bytes : List ℕ) (m : Message) (at : ℕ)
            → (GivesTo x.connection.host bytes e.event → used ≡ ls.now)
            → GaveLately x.server x.server x.connection.host bytes at (e ∷ h)
            → reading_of bytes ≡ Ok m → named x.server_setup x.connection.host m ≡ c → at < used + LIFETIME_MS
        told-now used later bytes m at uses (inl g) reads name =
            (let is = uses g.gives in let lately = g.lately in omega arith)
        told-now used later bytes m at uses (inr gave) reads name =
            (let old = k.told bytes m at gave reads name in omega arith)
