-- What holds of the times of a call goes on with each event of its client.
use Rattle.std.proofs.Common.{◌≡◌, ◌≢◌, ◌⊎◌, ◌<◌, ◌+◌, ℕ, is_some, true, false, List, ◌∷◌, Option, Some, None}
use Rattle.std.proofs.Common.{Ok, Err, refl, ◌∙◌, ap, sym, subst, inl, inr, arith}
use Rattle.rx_model.specs.declared.answers.Took.{Took}
use Rattle.rx_model.specs.declared.event.Event.{Event}
use Rattle.rx_model.specs.declared.event.Event.TheVariants as events
use Rattle.rx_model.specs.declared.event.Noted.{Noted}
use Rattle.rx_model.specs.declared.names.CallName.{CallName}
use Rattle.rx_model.specs.declared.names.Host.{Host}
use Rattle.rx_model.specs.declared.wire.TheConstants.{LIFETIME_MS}
use Rattle.rx_rules.specs.After.{after}
use Rattle.rx_model.specs.Body as bodies
use Rattle.rx_rules.specs.Items.{poll_answer}
use Rattle.rx_rules.specs.Looks.{CallRecord, Looks, call_at}
use Rattle.rx_model.specs.Message.{Message}
use Rattle.rx_model.specs.Names.{connection_of}
use Rattle.rx_model.specs.Reading.{reading_of}
use Rattle.rx_rules.specs.Rules.{AllowedClient}
use Rattle.rx_rules.specs.Setup.{Setup, Client, FitsSetup, IsServer, named}
use Rattle.rx_history.specs.Sides.{moment}
use Rattle.rx_law.specs.Times.{Acts, AdvancesAlike, GaveLately, is_clock}
use Rattle.rx_law.specs.Worlds.{TwoEnds}
use Rattle.rx_law.proofs.Hears.{Hears, heard_at, heard_by}
use Rattle.rx_law.proofs.HearsAfter.{HeardFrom, HeardIn, gives-heard, hears-client}
use Rattle.rx_law.proofs.Joint.{client-name, gives-at, server-name}
use Rattle.rx_law.proofs.Late.{LateAny, Timed, alike-since}
use Rattle.rx_history.proofs.Server.{Standing}
use Rattle.rx_history.proofs.Laws.SoundLaws.{Sound}

-- ---- why a call is heard

heard-why : (s : Setup) (l : Looks) (e : Event) (c : CallName) → HeardIn s l e c
    → (is_clock e ≡ false) × ((call_at l c ≡ None) ⊎ ((from : Host) × (bytes : List ℕ) × (got : Took)
    × (e ≡ events.Taken from bytes got) × HeardFrom s l from bytes got c))
heard-why s l (events.Called cid (Ok d)) c why = (refl, inl why.1)
heard-why s l (events.Called cid (Err refused)) c why = absurd why
heard-why s l (events.Taken from bytes got) c why = (refl, inr (from, bytes, got, refl, why))
heard-why s l (events.Linked to service first got) c why = absurd why
heard-why s l (events.Wrote d offered got bytes) c why = absurd why
heard-why s l (events.Shut d got) c why = absurd why
heard-why s l (events.HasRead d max got bytes) c why = absurd why
heard-why s l (events.Ended d got) c why = absurd why
heard-why s l (events.Cancelled d code got) c why = absurd why
heard-why s l (events.Accepted got) c why = absurd why
heard-why s l (events.Finished d code got) c why = absurd why
heard-why s l (events.Polled got) c why = absurd why
heard-why s l (events.Clocked now) c why = absurd why

some-number : (a b : ℕ) → Some a ≡ Some b → a ≡ b
some-number a b is = cc

-- ---- an event

module _ (x : TwoEnds) (c : CallName) (on : connection_of c ≡ x.connection)
    (kind : x.client_setup.kind ≡ Client x.connection.host x.connection.epoch)
    (server : IsServer x.server_setup.kind) (apart : x.client ≢ x.server) where
  module _ (e : Noted) (h : List Noted) (lc ls : Looks) (now : ℕ) (fits : FitsSetup x.client_setup)
      (here : e.node ≡ x.client)
      (clock : lc.now ≡ moment x.client h) (same : now ≡ moment x.server h)
      (allowed : AllowedClient x.client_setup x.connection.host x.connection.epoch lc e.event)
      (standing : Standing x.client_setup lc) (sound : Sound lc c 0)
      (late : LateAny x.client_setup lc x.connection e.event
      (λ bytes. GaveLately x.server x.server x.connection.host bytes (moment x.server h) h))
      (alike : Acts x.client e → AdvancesAlike x.server x.client h (moment x.server h) (moment x.client h))
      (k : Timed x c h lc ls now) where
    -- what the client gave so far, and with this event
    client-gave : (bytes : List ℕ) (m : Message) (payload : List ℕ) (at : ℕ)
        → GaveLately x.server x.client x.server_host bytes at (e ∷ h)
        → reading_of bytes ≡ Ok m → m.body ≡ bodies.Chunk payload → named x.client_setup x.server_host m ≡ c
        → (is_some (heard_at lc c) ≡ true) × (at < k.heard + 192000)
    client-gave bytes m payload at (inr gave) reads chunk name = k.gave bytes m payload at gave reads chunk name
    client-gave bytes m payload at (inl g) reads chunk name =
        let p = gives-at x.server_host bytes e.event g.gives in
        let answer : p.0 ≡ poll_answer x.client_setup lc =
        subst (λ (event : Event). AllowedClient x.client_setup x.connection.host x.connection.epoch lc event)
        p.1 allowed in
        let t = gives-heard x.client_setup lc p.0 x.server_host bytes m payload c fits standing answer p.2
        reads chunk name in
        let since = (k.since t.0 t.1).0 in
        let skew = alike-since x.server x.client h (moment x.server h) (moment x.client h) t.0 k.heard
        (alike (here, ap is_clock p.1)) since in
        let awake = t.2 in
        let lately = g.lately in
        (ap (λ (o : Option ℕ). is_some o) t.1, (omega arith))

    told-still : (bytes : List ℕ) (m : Message) (at : ℕ) → GaveLately x.server x.server x.connection.host bytes at
        (e ∷ h)
        → reading_of bytes ≡ Ok m → named x.server_setup x.connection.host m ≡ c → at < k.used + LIFETIME_MS
    told-still bytes m at (inl g) reads name = absurd (apart (sym here ∙ g.node_is))
    told-still bytes m at (inr gave) reads name = k.told bytes m at gave reads name

    -- it isn't heard by it
    unheard : (l : Looks) → heard_at l c ≡ heard_at lc c → Timed x c (e ∷ h) l ls now
    unheard l is =
        let some : is_some (heard_at l c) ≡ is_some (heard_at lc c) = ap (λ (o : Option ℕ). is_some o) is in
        record {
          used = k.used;
          called = k.called;
          heard = k.heard;
          recalls = k.recalls;
          called_before = k.called_before;
          heard_before = k.heard_before;
          since = λ t there. (let s = k.since t (sym is ∙ there) in (inr s.0, s.1));
          begun = λ there. (let b = k.begun there in (some ∙ b.0, b.1));
          gave = λ bytes m payload at gave reads chunk name.
              (let g = client-gave bytes m payload at gave reads chunk name in (some ∙ g.0, g.1));
          told = told-still;
        }

    -- it starts
    called-now : (l : Looks) → heard_at l c ≡ Some lc.now → is_clock e.event ≡ false → call_at lc c ≡ None
        → Timed x c (e ∷ h) l ls now
    called-now l is act none =
        let empty : is_some (heard_at lc c) ≡ false = ap (λ (o : Option CallRecord). is_some (heard_by o)) none in
        record {
          used = k.used;
          called = now;
          heard = now;
          recalls = k.recalls;
          called_before = omega arith;
          heard_before = omega arith;
          since = λ t there. (
              let at = some-number lc.now t (sym is ∙ there) in
              (inl ((here, act), (omega arith), same), inl (omega arith)));
          begun = λ there. absurd (let b = (k.begun there).0 in cc (b, empty));
          gave = λ bytes m payload at gave reads chunk name. absurd
              (let g = (client-gave bytes m payload at gave reads chunk name).0 in cc (g, empty));
          told = told-still;
        }

    -- a message of it comes
    heard-now : (l : Looks) (from : Host) (bytes : List ℕ) (got : Took) → heard_at l c ≡ Some lc.now → is_clock e.event
        ≡ false
        → e.event ≡ events.Taken from bytes got → HeardFrom x.client_setup lc from bytes got c
        → Timed x c (e ∷ h) l ls now
    heard-now l from bytes got is act event why =
        let comes = subst (λ (event : Event). LateAny x.client_setup lc x.connection event
        (λ bytes. GaveLately x.server x.server x.connection.host bytes (moment x.server h) h))
        event late in
        let gave = comes why.message why.answer why.reads why.front (ap connection_of why.named_is ∙ on) in
        let name : named x.server_setup x.connection.host why.message ≡ c =
        server-name x.server_setup x.connection.host why.message server
        ∙ sym (client-name x.client_setup x.connection from why.message kind) ∙ why.named_is in
        let recent = k.told bytes why.message (moment x.server h) gave why.reads name in
        let before = k.heard_before in
        record {
          used = k.used;
          called = k.called;
          heard = now;
          recalls = k.recalls;
          called_before = k.called_before;
          heard_before = omega arith;
          since = λ t there. (
              let at = some-number lc.now t (sym is ∙ there) in
              (inl ((here, act), (omega arith), same), inr (omega arith)));
          begun = λ there. (ap (λ (o : Option ℕ). is_some o) is, (k.begun there).1);
          gave = λ given m payload at g reads chunk called. (
              let old = (client-gave given m payload at g reads chunk called).1 in
              (ap (λ (o : Option ℕ). is_some o) is, (omega arith)));
          told = told-still;
        }

    -- each of these
    pub client-timed : Timed x c (e ∷ h) (after x.client_setup e.event lc) ls now
    client-timed =
        of (hears-client x.client_setup x.connection.host x.connection.epoch lc e.event c kind fits allowed
        standing.conns sound)
      where
        why : heard_at (after x.client_setup e.event lc) c ≡ Some lc.now
            → (is_clock e.event ≡ false) × ((call_at lc c ≡ None) ⊎
            ((from : Host) × (bytes : List ℕ) × (got : Took) × (e.event ≡ events.Taken from bytes got)
            × HeardFrom x.client_setup lc from bytes got c))
            → Timed x c (e ∷ h) (after x.client_setup e.event lc) ls now
        why is w =
            (elim w.1 as (λ t. Timed x c (e ∷ h) (after x.client_setup e.event lc) ls now) [
              | inl none ↦ called-now (after x.client_setup e.event lc) is w.0 none
              | inr came ↦ heard-now (after x.client_setup e.event lc) came.0 came.1 came.2 is w.0 came.3 came.4
            ])

        of : Hears lc.now (HeardIn x.client_setup lc e.event c) (heard_at lc c)
            (heard_at (after x.client_setup e.event lc) c)
            → Timed x c (e ∷ h) (after x.client_setup e.event lc) ls now
        of (inl stays) = unheard (after x.client_setup e.event lc) stays
        of (inr now') = why now'.0 (heard-why x.client_setup lc e.event c now'.1)
