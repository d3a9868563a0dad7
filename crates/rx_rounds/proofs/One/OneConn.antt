-- A server to which data of one connection alone comes has no other record, and forgets none.
use Rattle.std.proofs.Common.{◌≡◌, ◌≤◌, ◌⊎◌, ◌==◌, ◌&&◌, not, ℕ, ℤ, suc, Bool, true, false, cond, List, [], ◌∷◌}
use Rattle.std.proofs.Common.{Option, Some, None, Result, Ok, Err, refl, ap, sym, subst, ◌∙◌, inl, inr, is_some}
use Rattle.std.proofs.Common.{if◌then◌else◌, map, nat_lt, arith}
use Rattle.std.specs.Prelude.{drop}
use Rattle.std.proofs.lemmas.Bool.{lt-leb}
use Rattle.rx_model.proofs.NameLaws.{connection_itself}
use Rattle.rx_model.specs.Body.{Body}
use Rattle.rx_model.specs.Body as bodies
use Rattle.rx_model.specs.Message.{Message}
use Rattle.rx_model.specs.Names.{Channel, Connection, channel_of, connection_of, same_connection}
use Rattle.rx_model.specs.Reading.{reading_of}
use Rattle.rx_model.specs.Strays.{is_stray}
use Rattle.rx_model.specs.declared.answers.BadMsg.{BadMsg}
use Rattle.rx_model.specs.declared.answers.ServeRefused.{ServeRefused}
use Rattle.rx_model.specs.declared.answers.ServeRefused.TheVariants as refusals
use Rattle.rx_model.specs.declared.answers.Took.{Took}
use Rattle.rx_model.specs.declared.answers.Took.TheVariants as tooks
use Rattle.rx_model.specs.declared.event.Event.{Event}
use Rattle.rx_model.specs.declared.event.Event.TheVariants as events
use Rattle.rx_model.specs.declared.names.CallName.{CallName}
use Rattle.rx_model.specs.declared.names.Host.{Host}
use Rattle.rx_model.specs.declared.wire.TheConstants.{RX_PROTOCOL_ERROR}
use Rattle.rx_rules.specs.After.{after, challenged, counted, enters, finish_done, given_body, given_by, given_message}
use Rattle.rx_rules.specs.After.{is_end, is_zero, owing_abort, owing_ackall, owing_again, owing_busy, prepared, settled}
use Rattle.rx_rules.specs.After.{stopped_all, taken_at, taken_behind, taken_data, taken_heard, taken_message}
use Rattle.rx_rules.specs.After.{taken_over}
use Rattle.rx_rules.specs.After.{taken_stopped, taken_unserved, taken_with, turned_away, with_first}
use Rattle.rx_rules.specs.CallLooks.{after_shut}
use Rattle.rx_rules.specs.Judging.{opened, outer_row}
use Rattle.rx_rules.specs.Life.{after_code, is_calling}
use Rattle.rx_rules.specs.Looks.{CallRecord, ChannelLooks, ConnLooks, Looks, call_at, changed_at, channel_at}
use Rattle.rx_rules.specs.Looks.{conn_at, fresh_channel, is_call, is_proved, on_call, on_channel, on_conn}
use Rattle.rx_rules.specs.Looks.{on_life, on_looks}
use Rattle.rx_rules.specs.Records.{entered, is_full, silenced, started_later, with_conn}
use Rattle.rx_rules.specs.Rules.{AllowedServer}
use Rattle.rx_rules.specs.Setup.{Setup, Kind, Server, Client, is_client, named}
use Rattle.rx_rules.proofs.ConnsLaws.{conn_if}

-- the connections that have a record, and those that were forgotten
abbrev pub shape : Looks → List Connection × List Connection
shape l = (map (λ (r : ConnLooks). r.connection) l.conns, l.forgotten)

-- ---- changes that leave both

names_stay : (y : Connection) (f : ConnLooks → ConnLooks) (rs : List ConnLooks)
    → ((r : ConnLooks) → (f r).connection ≡ r.connection)
    → map (λ (r : ConnLooks). r.connection) (map (conn_if y f) rs) ≡ map (λ (r : ConnLooks). r.connection) rs
names_stay y f [] keeps = refl
names_stay y f (r ∷ rs) keeps =
    let rest = names_stay y f rs keeps in
    of (same_connection r.connection y) ∙ ap (λ (ns : List Connection). r.connection ∷ ns) rest
  where
    of : (b : Bool) → (cond b (f r) r).connection ∷ map (λ (r : ConnLooks). r.connection) (map (conn_if y f) rs)
        ≡ r.connection ∷ map (λ (r : ConnLooks). r.connection) (map (conn_if y f) rs)
    of true = ap (λ (n : Connection). n ∷ map (λ (r : ConnLooks). r.connection) (map (conn_if y f) rs)) (keeps r)
    of false = refl

shape_conn : (y : Connection) (f : ConnLooks → ConnLooks) (l : Looks)
    → ((r : ConnLooks) → (f r).connection ≡ r.connection) → shape (on_conn y f l) ≡ shape l
shape_conn y f l keeps = ap (λ (ns : List Connection). (ns, l.forgotten)) (names_stay y f l.conns keeps)

shape_channel : (ch : Channel) (f : ChannelLooks → ChannelLooks) (l : Looks) → shape (on_channel ch f l) ≡ shape l
shape_channel ch f l =
    shape_conn ch.connection (λ (r : ConnLooks). record r { channels = changed_at ch.chan f r.channels }) l (λ r. refl)

shape_if : (b : Bool) (m l k : Looks) → shape m ≡ shape k → shape l ≡ shape k → shape (if b then m else l) ≡ shape k
shape_if true m l k here there = here
shape_if false m l k here there = there

-- ---- a message is taken

shape_challenged : (s : Setup) (d : CallName) (l : Looks) → shape (challenged s d l) ≡ shape l
shape_challenged s d l =
    shape_if (not (is_client s.kind) && (s.class.challenges && not (is_proved l (connection_of d))))
    (on_channel (channel_of d) (λ q. record q { owed_challenge = true }) l) l l
    (shape_channel (channel_of d) (λ q. record q { owed_challenge = true }) l) refl

shape_opened : (s : Setup) (d : CallName) (l : Looks) → shape (opened s d l) ≡ shape l
shape_opened s d l =
    shape_if (nat_lt (channel_at l (channel_of d)).number d.number) (started_later s d l) l l
    (shape_channel (channel_of d) (λ q. fresh_channel d.number) l) refl

shape_data : (s : Setup) (got : Took) (d : CallName) (m : Message) (l : Looks)
    → shape (taken_data s got d m l) ≡ shape l
shape_data s got d m l = shape_challenged s d
    (record (taken_at s got d m l) { firsts = with_first got d m.seq l.firsts })

shape_heard : (s : Setup) (d : CallName) (body : Body) (l : Looks) → shape (taken_heard s d body l) ≡ shape l
shape_heard s d (bodies.Ack a) l = shape_challenged s d (on_call d settled l)
shape_heard s d (bodies.Response bytes) l =
    shape_conn (connection_of d) (λ (r : ConnLooks). record r { proved = true }) l (λ r. refl)
shape_heard s d (bodies.Challenge bytes) l =
    shape_channel (channel_of d) (λ q. record q { owed_response = s.class.respond d bytes }) l
shape_heard s d _ l = refl

shape_stopped : (d : CallName) (body : Body) (l : Looks) → shape (taken_stopped d body l) ≡ shape l
shape_stopped d (bodies.Abort code) l =
    shape_if (d.number == 0) (stopped_all (connection_of d) code l) (on_life d (after_code code) l) l refl refl
shape_stopped d (bodies.Response bytes) l = shape_channel (channel_of d) (owing_abort (Some RX_PROTOCOL_ERROR)) l
shape_stopped d _ l = refl

shape_over : (d : CallName) (body : Body) (o : Option CallRecord) (l : Looks) → shape (taken_over d body o l) ≡ shape l
shape_over d body None l = refl
shape_over d body (Some k) l = shape_channel (channel_of d) (owing_again body k.life) l

shape_with : (s : Setup) (got : Took) (d : CallName) (m : Message) (l : Looks)
    → shape (taken_with s got d m l) ≡ shape l
shape_with s tooks.Kept d m l = shape_data s tooks.Kept d m (opened s d l) ∙ shape_opened s d l
shape_with s tooks.NoSlot d m l = shape_data s tooks.NoSlot d m (opened s d l) ∙ shape_opened s d l
shape_with s tooks.Repeat d m l = shape_data s tooks.Repeat d m l
shape_with s tooks.Beyond d m l = shape_data s tooks.Beyond d m l
shape_with s tooks.Clash d m l = shape_data s tooks.Clash d m l
shape_with s tooks.Heard d m l = shape_heard s d m.body (taken_at s tooks.Heard d m l)
shape_with s tooks.Stopped d m l = shape_stopped d m.body l
shape_with s tooks.Busy d m l = shape_channel (channel_of d) (owing_busy d.number) l
shape_with s tooks.NoRoom d m l = shape_channel (channel_of d) (owing_busy d.number) l
shape_with s tooks.Over d m l = shape_over d m.body (call_at l d) l
shape_with s _ d m l = refl

shape_turned : (row : Took) (from : Host) (m : Message) (l : Looks) → shape (turned_away row from m l) ≡ shape l
shape_turned tooks.Unserved from m l = of m.body
  where
    of : (body : Body) → shape (taken_unserved from m body l) ≡ shape l
    of (bodies.Chunk payload) = refl
    of _ = refl
shape_turned _ from m l = refl

-- ---- a message is given

shape_body : (d : CallName) (m : Message) (body : Body) (l : Looks) → shape (given_body d m body l) ≡ shape l
shape_body d m (bodies.Chunk payload) l = refl
shape_body d m (bodies.Ack a) l = refl
shape_body d m (bodies.Abort code) l = shape_channel (channel_of d) (λ q. record q { owed_abort = None }) l
shape_body d m bodies.Busy l = shape_channel (channel_of d) (λ q. record q { owed_busy = None }) l
shape_body d m (bodies.Challenge bytes) l = shape_channel (channel_of d) (λ q. record q { owed_challenge = false }) l
shape_body d m (bodies.Response bytes) l = shape_channel (channel_of d) (λ q. record q { owed_response = None }) l
shape_body d m bodies.AckAll l = shape_channel (channel_of d) (λ q. record q { owed_ackall = false }) l

shape_given : (s : Setup) (got : Option (Host × List ℕ)) (l : Looks) → shape (given_by s got l) ≡ shape l
shape_given s None l = refl
shape_given s (Some (to, bytes)) l = of (reading_of bytes)
  where
    of : (reading : Result Message BadMsg) → shape (given_message s to reading l) ≡ shape l
    of (Err bad) = refl
    of (Ok m) =
        let x : Connection = connection_of (named s to m) in
        shape_if (is_stray m m.body) (record l { strays = drop 1 l.strays })
        (given_body (named s to m) m m.body (counted x l)) l
        refl
        (shape_body (named s to m) m m.body (counted x l)
        ∙ shape_conn x (λ (r : ConnLooks). record r { given = suc r.given; last_use = l.now }) l (λ r. refl))

-- ---- calls of handlers

shape_finish : (d : CallName) (code : ℤ) (got : Result (Unit {0}) ServeRefused) (l : Looks)
    → shape (finish_done d code got l) ≡ shape l
shape_finish d code (Ok done) l =
    shape_if (is_zero code) (on_looks d after_shut l) (on_channel (channel_of d) (owing_abort (Some code)) l) l refl
    (shape_channel (channel_of d) (owing_abort (Some code)) l)
shape_finish d code (Err (refusals.Gone told)) l = refl
shape_finish d code (Err refusals.NotOpen) l = refl
shape_finish d code (Err refusals.Unread) l = refl

-- ---- one connection alone

-- it has a record, or none does; and none was forgotten
abbrev pub Alone : Connection → List Connection × List Connection → Type 0
Alone x p = ((p.0 ≡ []) ⊎ (p.0 ≡ x ∷ [])) × (p.1 ≡ [])

-- where a datagram has a connection entered, it is this one
abbrev pub EntersOnly : Connection → Setup → Looks → Event → Type 0
EntersOnly x s l (events.Taken from bytes got) =
    (m : Message) → reading_of bytes ≡ Ok m → outer_row s s.kind l from m ≡ None → enters got ≡ true
    → conn_at l (connection_of (named s from m)) ≡ None → connection_of (named s from m) ≡ x
EntersOnly x s l _ = Unit {0}

module _ (x : Connection) (s : Setup) (some : 1 ≤ s.limits.conns) where
  -- a record that isn't there is entered where there are none
  no_records : (l : Looks) → conn_at l x ≡ None → Alone x (shape l) → l.conns ≡ []
  no_records l none alone = of l.conns refl alone.0
    where
      of : (rs : List ConnLooks) → l.conns ≡ rs
          → (map (λ (r : ConnLooks). r.connection) l.conns ≡ []) ⊎
          (map (λ (r : ConnLooks). r.connection) l.conns ≡ x ∷ [])
          → l.conns ≡ []
      of [] is which = is
      of (r ∷ rs) is (inl gone) =
          absurd (let some_ : r.connection ∷ map (λ (q : ConnLooks). q.connection) rs ≡ [] =
          ap (λ (qs : List ConnLooks). map (λ (q : ConnLooks). q.connection) qs) (sym is) ∙ gone in cc)
      of (r ∷ rs) is (inr one) =
          let both : r.connection ∷ map (λ (q : ConnLooks). q.connection) rs ≡ x ∷ [] =
          ap (λ (qs : List ConnLooks). map (λ (q : ConnLooks). q.connection) qs) (sym is) ∙ one in
          let own : r.connection ≡ x = cc in
          let found : same_connection r.connection x ≡ true = ap (λ (y : Connection). same_connection y x) own
          ∙ connection_itself x in
          absurd (let never : Some r ≡ None = sym (rw (is, found) refl) ∙ none in cc)

  alone_entered : (y : Connection) (l : Looks) → (conn_at l y ≡ None → y ≡ x) → Alone x (shape l)
      → Alone x (shape (entered s y l))
  alone_entered y l only alone = of (is_some (conn_at l y)) (conn_at l y) refl refl
    where
      of_kind : (kind : Kind) → y ≡ x → l.conns ≡ [] → Alone x (shape (with_conn s kind y l))
      of_kind (Client host epoch) is none = alone
      of_kind (Server service nonces) is none =
          let room : is_full s l ≡ false = rw none (lt-leb s.limits.conns 0 (omega arith)) in
          rw room (rw none (inr (ap (λ (z : Connection). z ∷ []) is), alone.1))

      of : (b : Bool) (o : Option ConnLooks) → conn_at l y ≡ o → is_some o ≡ b
          → Alone x (shape (cond (is_some (conn_at l y)) l (with_conn s s.kind y l)))
      of b None none is =
          let own : y ≡ x = only none in
          rw none (of_kind s.kind own (no_records l (subst (λ (z : Connection). conn_at l z ≡ None) own none) alone))
      of b (Some r) there is = rw there alone

  alone_taken : (from : Host) (bytes : List ℕ) (got : Took) (l : Looks) (reading : Result Message BadMsg)
      → reading_of bytes ≡ reading → EntersOnly x s l (events.Taken from bytes got) → Alone x (shape l)
      → Alone x (shape (taken_message s from reading got l))
  alone_taken from bytes got l (Err bad) reads only alone = alone
  alone_taken from bytes got l (Ok m) reads only alone = behind (outer_row s s.kind l from m) refl
    where
      d : CallName
      d = named s from m

      ready : Alone x (shape (if enters got then entered s (connection_of d) l else l))
          → outer_row s s.kind l from m ≡ None
          → Alone x (shape (taken_with s got d m (prepared s got (connection_of d) l)))
      ready held front =
          let first : Looks = if enters got then entered s (connection_of d) l else l in
          subst (Alone x)
          (sym (shape_with s got d m (prepared s got (connection_of d) l)
          ∙ shape_conn (connection_of d) (λ (r : ConnLooks). record r { last_use = first.now }) first (λ r. refl))) held

      entering : (b : Bool) → enters got ≡ b → outer_row s s.kind l from m ≡ None
          → Alone x (shape (if b then entered s (connection_of d) l else l))
      entering true enter front = alone_entered (connection_of d) l (λ none. only m reads front enter none) alone
      entering false enter front = alone

      behind : (row : Option Took) → outer_row s s.kind l from m ≡ row
          → Alone x (shape (taken_behind s row from d m got l))
      behind (Some row) is = subst (Alone x) (sym (shape_turned row from m l)) alone
      behind None is = ready (entering (enters got) refl is) is

  pub alone_after : (l : Looks) (e : Event) → AllowedServer s l e → EntersOnly x s l e → Alone x (shape l)
      → Alone x (shape (after s e l))
  alone_after l (events.Accepted (Some c)) allowed only alone = alone
  alone_after l (events.Accepted None) allowed only alone = alone
  alone_after l (events.Wrote c offered got bytes) allowed only alone = alone
  alone_after l (events.HasRead c max got bytes) allowed only alone =
      subst (Alone x)
      (sym (shape_channel (channel_of c) (owing_ackall (is_end got && is_call (λ k. is_calling k.life) (call_at l c)))
      l)) alone
  alone_after l (events.Finished c code got) allowed only alone = subst (Alone x) (sym (shape_finish c code got l))
      alone
  alone_after l (events.Taken from bytes got) allowed only alone =
      alone_taken from bytes got l (reading_of bytes) refl only alone
  alone_after l (events.Polled got) allowed only alone = subst (Alone x) (sym (shape_given s got (silenced l))) alone
  alone_after l (events.Clocked now) allowed only alone = alone
  alone_after l _ allowed only alone = absurd allowed
