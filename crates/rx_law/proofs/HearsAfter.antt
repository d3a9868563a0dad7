-- A client's call is heard by its start and by what comes of it alone, and its DATA is given only while it is heard.
use Rattle.std.proofs.Common.{◌≡◌, ◌&&◌, ◌<◌, ◌+◌, ◌-◌, ℕ, cond, if◌then◌else◌, nat_le, Bool, true, false, List, drop}
use Rattle.std.proofs.Common.{Option, Some, None, Result, Ok, Err, refl, ◌∙◌, ap, sym, subst, inl, inr, arith}
use Rattle.std.proofs.lemmas.Bool.Decides.{nat_tests}
use Rattle.rx_model.specs.declared.answers.BadMsg.{BadMsg}
use Rattle.rx_model.specs.declared.answers.Took.{Took}
use Rattle.rx_model.specs.declared.event.Event.{Event}
use Rattle.rx_model.specs.declared.event.Event.TheVariants as events
use Rattle.rx_model.specs.declared.names.CallName.{CallName}
use Rattle.rx_model.specs.declared.names.Host.{Host}
use Rattle.rx_model.specs.declared.wire.TheConstants.{SILENCE_MS}
use Rattle.rx_rules.specs.After.{acknowledged, after, counted, given_body, given_by, given_message, is_end, linked}
use Rattle.rx_rules.specs.After.{prepared}
use Rattle.rx_rules.specs.After.{taken_behind, taken_message, taken_with, turned_away}
use Rattle.rx_model.specs.Body.{Body}
use Rattle.rx_model.specs.Body as bodies
use Rattle.rx_rules.specs.CallLooks.{after_ack_given, after_piece, after_read, after_shut, after_write}
use Rattle.rx_rules.specs.Items.{poll_answer}
use Rattle.rx_rules.specs.Judging.{outer_row}
use Rattle.rx_rules.specs.Life.{after_cancel, after_end, after_silence, is_active}
use Rattle.rx_rules.specs.Life as lives
use Rattle.rx_rules.specs.Looks.{CallRecord, Looks, call_at, conn_at, on_looks}
use Rattle.rx_model.specs.Message.{Message}
use Rattle.rx_model.specs.Names.{connection_of, same_name}
use Rattle.rx_model.specs.Reading.{reading_of}
use Rattle.rx_rules.specs.Records.{is_silent, silence_of, silenced, unless_silent}
use Rattle.rx_rules.specs.Rules.{AllowedClient}
use Rattle.rx_rules.specs.Setup.{Setup, Kind, Server, Client, FitsSetup, named}
use Rattle.rx_model.specs.Strays.{is_stray}
use Rattle.rx_rules.proofs.ConnsLaws.{number_of}
use Rattle.rx_model.proofs.NameLaws.{name_is}
use Rattle.rx_history.proofs.Client.{fresh-call}
use Rattle.rx_history.proofs.Conns.{Conns}
use Rattle.rx_history.proofs.Data.{poll-gives}
use Rattle.rx_history.proofs.Events.{call-by, calls-prepared, calls-turned}
use Rattle.rx_law.proofs.Hears.{Hears, heard_at, heard_by, heard-on_calls, heard-on_life, heard-on_looks, hears}
use Rattle.rx_law.proofs.HearsTaken.{HeardBy, hears-started, hears-with}
use Rattle.rx_history.proofs.Moments.{now-prepared}
use Rattle.rx_history.proofs.Server.{Standing, good-silenced}
use Rattle.rx_history.proofs.Laws.SoundLaws.{Below, Sound}
use Rattle.rx_history.proofs.Given.GivenLaws.{silent-name}

-- a message of the call came, with an answer for which it is heard
pub record HeardFrom (s : Setup) (l : Looks) (from : Host) (bytes : List ℕ) (got : Took) (c : CallName) : Type 0 where
  pub message : Message
  pub reads : reading_of bytes ≡ Ok message
  pub front : outer_row s s.kind l from message ≡ None
  pub named_is : named s from message ≡ c
  pub answer : hears got ≡ true

-- why an event is a moment at which the call is heard
abbrev pub HeardIn : Setup → Looks → Event → CallName → Type 0
HeardIn s l (events.Called cid (Ok d)) c = (same_name c d ≡ true) × (call_at l c ≡ None)
HeardIn s l (events.Taken from bytes got) c = HeardFrom s l from bytes got c
HeardIn s l _ c = ⊥

heard-calls : (c : CallName) (l m : Looks) → m.calls ≡ l.calls → heard_at m c ≡ heard_at l c
heard-calls c l m same = ap heard_by (call-by c l m same)

-- ---- a message

hears-behind : (s : Setup) (row : Option Took) (from : Host) (bytes : List ℕ) (m : Message) (got : Took) (l : Looks)
    (c : CallName)
    → reading_of bytes ≡ Ok m → outer_row s s.kind l from m ≡ row
    → Hears l.now (HeardFrom s l from bytes got c) (heard_at l c)
    (heard_at (taken_behind s row from (named s from m) m got l) c)
hears-behind s (Some row) from bytes m got l c reads front = inl
    (heard-calls c l (turned_away row from m l) (calls-turned row from m l))
hears-behind s None from bytes m got l c reads front =
    let d : CallName = named s from m in
    let ready : Looks = prepared s got (connection_of d) l in
    with-message (heard_at ready c) (heard_at (taken_with s got d m ready) c)
    (heard-calls c l ready (calls-prepared s got (connection_of d) l))
    (subst (λ (n : ℕ). Hears n (HeardBy got c d) (heard_at ready c) (heard_at (taken_with s got d m ready) c))
    (now-prepared s got (connection_of d) l) (hears-with s got c d m ready))
  where
    with-message : (a b : Option ℕ) → a ≡ heard_at l c → Hears l.now (HeardBy got c (named s from m)) a b
        → Hears l.now (HeardFrom s l from bytes got c) (heard_at l c) b
    with-message a b ready (inl same) = inl (same ∙ ready)
    with-message a b ready (inr now) =
        inr (
          now.0,
          record {
            message = m;
            reads = reads;
            front = front;
            named_is = sym (name_is c (named s from m) now.1.1);
            answer = now.1.0;
          },
        )

hears-message : (s : Setup) (from : Host) (bytes : List ℕ) (reading : Result Message BadMsg) (got : Took) (l : Looks)
    (c : CallName)
    → reading_of bytes ≡ reading
    → Hears l.now (HeardFrom s l from bytes got c) (heard_at l c) (heard_at (taken_message s from reading got l) c)
hears-message s from bytes (Err bad) got l c reads = inl refl
hears-message s from bytes (Ok m) got l c reads = hears-behind s
    (outer_row s s.kind l from m) from bytes m got l c reads refl

-- ---- a poll

silent-heard : (now : ℕ) (k : CallRecord) → (unless_silent now k).looks.heard ≡ k.looks.heard
silent-heard now k = of (is_silent now k)
  where
    of : (b : Bool) → (cond b (record k { life = after_silence (silence_of now k) k.life }) k).looks.heard
        ≡ k.looks.heard
    of true = refl
    of false = refl

heard-silenced : (c : CallName) (l : Looks) → heard_at (silenced l) c ≡ heard_at l c
heard-silenced c l = heard-on_calls c (unless_silent l.now) l (silent-name l.now) (silent-heard l.now)

heard-given : (s : Setup) (got : Option (Host × List ℕ)) (l : Looks) (c : CallName) → heard_at (given_by s got l) c
    ≡ heard_at l c
heard-given s None l c = refl
heard-given s (Some (to, bytes)) l c = of (reading_of bytes)
  where
    body : (d : CallName) (m : Message) (b : Body) (l : Looks) → heard_at (given_body d m b l) c ≡ heard_at l c
    body d m (bodies.Chunk payload) l = heard-on_looks c d (after_piece l.now m.seq) l (λ k. refl)
    body d m (bodies.Ack a) l = heard-on_looks c d (after_ack_given l.now) l (λ k. refl)
    body d m (bodies.Abort code) l = refl
    body d m bodies.Busy l = refl
    body d m (bodies.Challenge given) l = refl
    body d m (bodies.Response given) l = refl
    body d m bodies.AckAll l = refl

    stray : (m : Message) (b : Bool)
        → heard_at (if b then record l { strays = drop 1 l.strays } else given_body (named s to m) m m.body
        (counted (connection_of (named s to m)) l)) c
        ≡ heard_at l c
    stray m true = refl
    stray m false = body (named s to m) m m.body (counted (connection_of (named s to m)) l)

    of : (reading : Result Message BadMsg) → heard_at (given_message s to reading l) c ≡ heard_at l c
    of (Err bad) = refl
    of (Ok m) = stray m (is_stray m m.body)

-- ---- each event

heard-linked : (kind : Kind) (to : Host) (service first cid : ℕ) (l : Looks) (c : CallName)
    → heard_at (linked kind to service first cid l) c ≡ heard_at l c
heard-linked (Client host epoch) to service first cid l c = refl
heard-linked (Server service nonces) to other first cid l c = refl

not-yet : (l : Looks) (c d : CallName) → same_name c d ≡ true
    → number_of (conn_at l (connection_of d)) d.chan < d.number → Sound l c 0
    → call_at l c ≡ None
not-yet l c d same above sound =
    of (call_at l c) sound.below (subst (λ (n : CallName). number_of (conn_at l (connection_of n)) n.chan < n.number)
    (sym (name_is c d same)) above)
  where
    of : (o : Option CallRecord) → Below o c.number (number_of (conn_at l (connection_of c)) c.chan)
        → number_of (conn_at l (connection_of c)) c.chan < c.number → o ≡ None
    of None below above = refl
    of (Some k) below above = absurd (omega arith)

-- what an event of a client makes of the moment at which a call was last heard
pub hears-client : (s : Setup) (host : Host) (epoch : ℕ) (l : Looks) (e : Event) (c : CallName) → s.kind
    ≡ Client host epoch → FitsSetup s
    → AllowedClient s host epoch l e → Conns s l → Sound l c 0
    → Hears l.now (HeardIn s l e c) (heard_at l c) (heard_at (after s e l) c)
hears-client s host epoch l (events.Linked to service first (Ok cid)) c kind fits allowed conns sound = inl
    (heard-linked s.kind to service first cid l c)
hears-client s host epoch l (events.Linked to service first (Err full)) c kind fits allowed conns sound = inl refl
hears-client s host epoch l (events.Called cid (Ok d)) c kind fits allowed conns sound =
    with-none (heard_at l c) (heard_at (after s (events.Called cid (Ok d)) l) c) (hears-started s lives.Calling c d l)
  where
    with-none : (a b : Option ℕ) → Hears l.now (same_name c d ≡ true) a b
        → Hears l.now ((same_name c d ≡ true) × (call_at l c ≡ None)) a b
    with-none a b (inl stays) = inl stays
    with-none a b (inr now) = inr (
      now.0,
      (
        now.1,
        not-yet l c d now.1
            (fresh-call s host epoch cid l d kind fits conns allowed).above sound,
      ),
    )
hears-client s host epoch l (events.Called cid (Err refused)) c kind fits allowed conns sound = inl refl
hears-client s host epoch l (events.Wrote d offered got bytes) c kind fits allowed conns sound = inl
    (heard-on_looks c d (after_write bytes) l (λ k. refl))
hears-client s host epoch l (events.Shut d (Ok done)) c kind fits allowed conns sound = inl
    (heard-on_looks c d after_shut l (λ k. refl))
hears-client s host epoch l (events.Shut d (Err closed)) c kind fits allowed conns sound = inl refl
hears-client s host epoch l (events.HasRead d max got bytes) c kind fits allowed conns sound =
    let first : Looks = acknowledged (is_end got) d l in
    let second : Looks = on_looks d (after_read l.now (is_end got) bytes) first in
    inl (heard-on_life c d (after_end (is_end got)) second ∙ heard-on_looks c d
    (after_read l.now (is_end got) bytes) first (λ k. refl))
hears-client s host epoch l (events.Ended d got) c kind fits allowed conns sound = inl refl
hears-client s host epoch l (events.Cancelled d code (Ok done)) c kind fits allowed conns sound = inl
    (heard-on_life c d (after_cancel code) l)
hears-client s host epoch l (events.Cancelled d code (Err closed)) c kind fits allowed conns sound = inl refl
hears-client s host epoch l (events.Taken from bytes got) c kind fits allowed conns sound = hears-message s from bytes
    (reading_of bytes) got l c refl
hears-client s host epoch l (events.Polled got) c kind fits allowed conns sound = inl
    (heard-given s got (silenced l) c ∙ heard-silenced c l)
hears-client s host epoch l (events.Clocked now) c kind fits allowed conns sound = inl refl
hears-client s host epoch l (events.Accepted got) c kind fits allowed conns sound = absurd allowed
hears-client s host epoch l (events.Finished d code got) c kind fits allowed conns sound = absurd allowed

-- ---- its DATA

awake-still : (now heard : ℕ) (active : Bool) → active ≡ true → (active && nat_le SILENCE_MS (now - heard)) ≡ false
    → now < heard + SILENCE_MS
awake-still now heard true is test = grind (arith, nat_tests)
awake-still now heard false is test = absurd cc

module _ (s : Setup) (l : Looks) (got : Option (Host × List ℕ)) (to : Host) (bytes : List ℕ) (m : Message)
    (payload : List ℕ) (c : CallName) where
  -- what a poll gives and is read as DATA is of a call that was heard a short while ago
  pub gives-heard : FitsSetup s → Standing s l → got ≡ poll_answer s l → got ≡ Some (to, bytes)
      → reading_of bytes ≡ Ok m → m.body ≡ bodies.Chunk payload → named s to m ≡ c
      → (heard : ℕ) × (heard_at l c ≡ Some heard) × (l.now < heard + SILENCE_MS)
  gives-heard fits standing answer is reads chunk name =
      let g = poll-gives s (silenced l) l.strays to bytes m payload fits standing.conns
      (λ d. good-silenced s l d (standing.calls d))
      (sym answer ∙ is) reads chunk in
      let there : call_at (silenced l) c ≡ Some g.call = subst
      (λ (n : CallName). call_at (silenced l) n ≡ Some g.call) name g.there in (
        g.call.looks.heard,
        sym (heard-silenced c l) ∙ ap heard_by there,
        awake-still l.now g.call.looks.heard (is_active g.call.life) g.active g.awake,
      )
