-- What each end of a call takes for acknowledged the other has, along any history of a connection whose server starts
-- the call once.
use Rattle.std.proofs.Common.{◌≡◌, ◌≤◌, ℕ, Bool, true, false, List, ◌∷◌, length, Option, Some, None}
use Rattle.std.proofs.Common.{refl, ap, sym, subst, ◌∙◌, arith}
use Rattle.rx_model.specs.declared.answers.Took.{Took}
use Rattle.rx_model.specs.declared.answers.Took.TheVariants as tooks
use Rattle.rx_model.specs.declared.event.Event.{Event}
use Rattle.rx_model.specs.declared.event.Noted.{Noted}
use Rattle.rx_model.specs.declared.names.CallName.{CallName}
use Rattle.rx_model.specs.declared.names.Host.{Host}
use Rattle.rx_model.specs.Body.{AckBody, Body}
use Rattle.rx_model.specs.Body as bodies
use Rattle.rx_model.specs.Message.{Message}
use Rattle.rx_model.specs.Names.{Connection, connection_of, name_of}
use Rattle.rx_rules.specs.After.{looks}
use Rattle.rx_rules.specs.Looks.{CallRecord, Looks, call_at}
use Rattle.rx_rules.specs.Received.{Received, used_of}
use Rattle.rx_rules.specs.Rules.{Legal}
use Rattle.rx_rules.specs.Sent.{Sent, pieces_by, pieces_of}
use Rattle.rx_rules.specs.Setup.{Setup, Kind, Client, Server, FitsSetup, IsServer, is_client, named}
use Rattle.rx_law.proofs.Carries.{Carries}
use Rattle.rx_history.proofs.Ends.{ends_of}
use Rattle.rx_law.proofs.Joint.{Between, Fed, client-name, of_call, server-name}
use Rattle.rx_history.specs.Sides.{side}
use Rattle.rx_history.specs.Starts.{StartsOnce}
use Rattle.rx_law.specs.Worlds.{Gave, TwoEnds}
use Rattle.rx_between.specs.Acknowledged.{AreTrue, BothTrue, received_by, sent_by}
use Rattle.rx_between.specs.Told.{IsEarlierAck}
use Rattle.rx_between.proofs.Along.{along}
use Rattle.rx_between.proofs.CameAll.{CameAll, JudgedCame}
use Rattle.rx_between.proofs.Each.EachStep.{Judges, is_own}
use Rattle.rx_between.proofs.GivenAckAlls.{given_ackalls, no_ackalls}
use Rattle.rx_between.proofs.GivenAcks.{OnlyGrows, given_acks}
use Rattle.rx_between.proofs.Histories.{StepOf, client_only_grows, client_onward, client_whole, grown_step}
use Rattle.rx_between.proofs.Histories.{server_only_grows, server_onward, server_whole}
use Rattle.rx_between.proofs.Onward.{end_by, sent_is}
use Rattle.rx_between.proofs.SaysLate.{given_data}
use Rattle.rx_between.proofs.SentTrue.{ToldTruly, sent_true}
use Rattle.rx_between.proofs.Truth.{true_grown}
use Rattle.rx_between.proofs.Whole.{EndsWhole, whole_used}

pub nothing-true : AreTrue (sent_by None) (received_by None)
nothing-true = record { hard = omega arith; soft = λ k low marks. absurd cc }

-- ---- a receiver that read all

pub said-is : (o : Option CallRecord) → (ends_of o).said ≡ (sent_by o).said
said-is None = refl
said-is (Some k) = refl

pub shut-is : (o : Option CallRecord) → (ends_of o).shut ≡ (sent_by o).shut
shut-is None = refl
shut-is (Some k) = refl

pub kept-is : (o : Option CallRecord) → (ends_of o).kept ≡ (received_by o).kept
kept-is None = refl
kept-is (Some k) = refl

-- is done with all pieces of the sender
pub all-used : (a b : Option CallRecord) → Carries (ends_of a).said (ends_of a).shut (ends_of b)
    → EndsWhole (received_by b)
    → (received_by b).ended ≡ true → pieces_of (sent_by a) ≤ used_of (received_by b)
all-used a b carries whole ended =
    let w = whole_used (ends_of a).said (ends_of a).shut (ends_of b) (received_by b) carries (kept-is b)
    (whole ended) in
    let is : pieces_of (sent_by a) ≡ pieces_by (length (ends_of a).said) (ends_of a).shut =
    λ i. pieces_by (length (sym (said-is a) i)) (sym (shut-is a) i) in
    omega arith

-- ---- one step of a sender, seen by the other end

sent-step : (peer s : Setup) (e : Event) (h : List Event) (c : CallName) (r : Received) → StepOf s e h c
    → ((m : Message) (got : Took) → is_own got ≡ true → Judges s (looks s h) e c m got
    → ToldTruly peer (is_client s.kind) (sent_by (call_at (looks s h) c)) r got m.body)
    → AreTrue (sent_by (call_at (looks s h) c)) r → AreTrue (sent_by (call_at (looks s (e ∷ h)) c)) r
sent-step peer s e h c r step told truth =
    let l : Looks = looks s h in
    let a : Option CallRecord = call_at l c in
    let b : Option CallRecord = call_at (looks s (e ∷ h)) c in
    subst (λ (x : Sent). AreTrue x r) (sent_is s l.now b)
    (sent_true peer s l e c (end_by s l.now a) (end_by s l.now b) r step
    (λ m got own judges.
    subst (λ (x : Sent). ToldTruly peer (is_client s.kind) x r got m.body) (sym (sent_is s l.now a))
    (told m got own judges))
    (subst (λ (x : Sent). AreTrue x r) (sym (sent_is s l.now a)) truth))

-- what a message tells, by its body
told-by : (peer : Setup) (client : Bool) (sent : Sent) (r : Received) (got : Took) (body : Body)
    → ((a : AckBody) → body ≡ bodies.Ack a → IsEarlierAck peer r a)
    → (body ≡ bodies.AckAll → pieces_of sent ≤ used_of r)
    → ((payload : List ℕ) → body ≡ bodies.Chunk payload → client ≡ true → pieces_of sent ≤ used_of r)
    → ToldTruly peer client sent r got body
told-by peer client sent r tooks.Heard (bodies.Ack a) ack all chunk = ack a refl
told-by peer client sent r tooks.Heard bodies.AckAll ack all chunk = all refl
told-by peer client sent r tooks.Heard (bodies.Chunk payload) ack all chunk = chunk payload refl
told-by peer client sent r tooks.Heard bodies.Busy ack all chunk = tt
told-by peer client sent r tooks.Heard (bodies.Abort code) ack all chunk = tt
told-by peer client sent r tooks.Heard (bodies.Challenge bytes) ack all chunk = tt
told-by peer client sent r tooks.Heard (bodies.Response bytes) ack all chunk = tt
told-by peer client sent r _ (bodies.Chunk payload) ack all chunk = chunk payload refl
told-by peer client sent r _ _ ack all chunk = tt

-- ---- a message that comes

not-foreign : (got : Took) → is_own got ≡ true → got ≡ tooks.Foreign → ⊥
not-foreign got own is = absurd (let no' : is_own got ≡ false = ap is_own is in cc (own, no'))

-- by the event that judges it
pub came-of : (s : Setup) (l : Looks) (y : Connection) (e : Event) (c : CallName) (Wanted : List ℕ → Type 0)
    → JudgedCame s l y e Wanted → connection_of c ≡ y → (m : Message) (got : Took) → is_own got ≡ true
    → (j : Judges s l e c m got) → Wanted j.bytes
came-of s l y e c Wanted came on m got own j =
    subst (λ (x : Event). JudgedCame s l y x Wanted) j.is came m (not-foreign got own) j.reads j.front
    (ap connection_of j.name ∙ on)

pub no-client : (k : Kind) → IsServer k → is_client k ≡ true → ⊥
no-client (Server service nonces) server is = absurd cc
no-client (Client host epoch) server is = server

module _ (x : TwoEnds) (client_kind : x.client_setup.kind ≡ Client x.connection.host x.connection.epoch)
    (server_kind : IsServer x.server_setup.kind) (client_fits : FitsSetup x.client_setup)
    (server_fits : FitsSetup x.server_setup) (c : CallName) (on : connection_of c ≡ x.connection) where
  -- a message at the client has the same name where it was given
  pub name-back : (from : Host) (m : Message) → named x.client_setup from m ≡ c
      → named x.server_setup x.connection.host m ≡ c
  name-back from m name =
      server-name x.server_setup x.connection.host m server_kind
      ∙ sym (client-name x.client_setup x.connection from m client_kind) ∙ name

  -- and one at the server
  pub name-there : (from : Host) (m : Message) → named x.server_setup from m ≡ c
      → named x.client_setup x.server_host m ≡ c
  name-there from m name =
      let own : named x.server_setup from m ≡ name_of from m = server-name x.server_setup from m server_kind in
      let host : from ≡ x.connection.host = ap (λ (n : CallName). n.host) (sym own)
      ∙ ap (λ (y : Connection). y.host) (ap connection_of name ∙ on) in
      client-name x.client_setup x.connection x.server_host m client_kind
      ∙ ap (λ (q : Host). name_of q m) (sym host) ∙ sym own ∙ name

  module _ (cl sv : List Event) (called : Legal x.client_setup cl) (served : Legal x.server_setup sv)
      (once : StartsOnce x.server_setup sv c)
      (both : Between (of_call x.client_setup cl c) (of_call x.server_setup sv c)) where
    abbrev a : Option CallRecord
    a = call_at (looks x.client_setup cl) c

    abbrev b : Option CallRecord
    b = call_at (looks x.server_setup sv) c

    -- what comes to the client tells truly of the server
    client-told : (e : Event)
        → JudgedCame x.client_setup (looks x.client_setup cl) x.connection e (λ bytes. Gave x.connection.host bytes sv)
        → (m : Message) (got : Took) → is_own got ≡ true → Judges x.client_setup (looks x.client_setup cl) e c m got
        → ToldTruly x.server_setup (is_client x.client_setup.kind) (sent_by a) (received_by b) got m.body
    client-told e came m got own j =
        told-by x.server_setup (is_client x.client_setup.kind) (sent_by a) (received_by b) got m.body
        (λ ack is.
        given_acks x.server_setup sv c x.connection.host j.bytes m ack server_fits served grows j.reads is name gave)
        (λ is.
        absurd (no_ackalls x.server_setup sv x.connection.host j.bytes m server_kind server_fits served j.reads is
        gave))
        (λ payload is client'.
        all-used a b both.request (server_whole x.server_setup sv c server_kind server_fits served once)
        (given_data x.server_setup sv c x.connection.host j.bytes m payload server_kind server_fits served once grows
        j.reads is name gave))
      where
        grows : OnlyGrows x.server_setup c sv
        grows = server_only_grows x.server_setup sv c server_kind server_fits served once

        name : named x.server_setup x.connection.host m ≡ c
        name = name-back j.from m j.name

        gave : Gave x.connection.host j.bytes sv
        gave =
            came-of x.client_setup (looks x.client_setup cl) x.connection e c
            (λ bytes. Gave x.connection.host bytes sv) came on m got own j

    -- and what comes to the server of the client
    server-told : (e : Event)
        → JudgedCame x.server_setup (looks x.server_setup sv) x.connection e (λ bytes. Gave x.server_host bytes cl)
        → (m : Message) (got : Took) → is_own got ≡ true → Judges x.server_setup (looks x.server_setup sv) e c m got
        → ToldTruly x.client_setup (is_client x.server_setup.kind) (sent_by b) (received_by a) got m.body
    server-told e came m got own j =
        told-by x.client_setup (is_client x.server_setup.kind) (sent_by b) (received_by a) got m.body
        (λ ack is.
        given_acks x.client_setup cl c x.server_host j.bytes m ack client_fits called grows j.reads is name gave)
        (λ is.
        all-used b a both.reply
        (client_whole x.client_setup x.connection.host x.connection.epoch cl c client_kind client_fits called)
        (given_ackalls x.client_setup x.connection.host x.connection.epoch cl c x.server_host j.bytes m client_kind
        client_fits called grows j.reads is name gave))
        (λ payload is client'. absurd (no-client x.server_setup.kind server_kind client'))
      where
        grows : OnlyGrows x.client_setup c cl
        grows =
            client_only_grows x.client_setup x.connection.host x.connection.epoch cl c client_kind client_fits called

        name : named x.client_setup x.server_host m ≡ c
        name = name-there j.from m j.name

        gave : Gave x.server_host j.bytes cl
        gave =
            came-of x.server_setup (looks x.server_setup sv) x.connection e c (λ bytes. Gave x.server_host bytes cl)
            came on m got own j

    -- an event of the client
    pub client-step : (e : Event) → Legal x.client_setup (e ∷ cl)
        → JudgedCame x.client_setup (looks x.client_setup cl) x.connection e (λ bytes. Gave x.connection.host bytes sv)
        → BothTrue a b → BothTrue (call_at (looks x.client_setup (e ∷ cl)) c) b
    client-step e legal came truth =
        let step = client_onward x.client_setup x.connection.host x.connection.epoch e cl c client_kind client_fits
        legal in
        record {
          request =
              sent-step x.server_setup x.client_setup e cl c (received_by b) step (client-told e came) truth.request;
          reply =
              true_grown (sent_by b) (received_by a) (received_by (call_at (looks x.client_setup (e ∷ cl)) c))
              (grown_step x.client_setup e cl c step) truth.reply;
        }

    -- an event of the server
    pub server-step : (e : Event) → Legal x.server_setup (e ∷ sv) → StartsOnce x.server_setup (e ∷ sv) c
        → JudgedCame x.server_setup (looks x.server_setup sv) x.connection e (λ bytes. Gave x.server_host bytes cl)
        → BothTrue a b → BothTrue a (call_at (looks x.server_setup (e ∷ sv)) c)
    server-step e legal once_more came truth =
        let step = server_onward x.server_setup e sv c server_kind server_fits legal once_more in
        record {
          request =
              true_grown (sent_by a) (received_by b) (received_by (call_at (looks x.server_setup (e ∷ sv)) c))
              (grown_step x.server_setup e sv c step) truth.request;
          reply =
              sent-step x.client_setup x.server_setup e sv c (received_by a) step (server-told e came) truth.reply;
        }

-- at every moment
pub both_true : (x : TwoEnds) (h : List Noted) (c : CallName) → Fed x h → CameAll x h → connection_of c ≡ x.connection
    → BothTrue (call_at (looks x.client_setup (side x.client h)) c) (call_at (looks x.server_setup (side x.server h)) c)
both_true x h c f came on =
    along x c (λ cl sv. BothTrue (call_at (looks x.client_setup cl) c) (call_at (looks x.server_setup sv) c))
    (record { request = nothing-true; reply = nothing-true })
    (λ cl sv e st new came truth.
    client-step x st.client_kind st.server_kind st.client_fits st.server_fits c st.on cl sv st.called st.served st.once
    st.both e new.called came truth)
    (λ cl sv e st new came truth.
    server-step x st.client_kind st.server_kind st.client_fits st.server_fits c st.on cl sv st.called st.served st.once
    st.both e new.served new.once came truth) on h f came
