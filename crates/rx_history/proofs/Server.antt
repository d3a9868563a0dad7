-- A server's side: what each event makes of each call, and what stands of it after a history.
use Rattle.std.proofs.Common.{◌≡◌, ◌&&◌, ◌<◌, ◌≤◌, ◌+◌, ◌-◌, ◌*◌, ◌/◌, ◌^◌, ℕ, ℤ, suc, if◌then◌else◌, min}
use Rattle.std.proofs.Common.{nat_lt, Bool, true, false, List, [], length}
use Rattle.std.proofs.Common.{Option, Some, None, Result, Ok, Err, refl, ◌∙◌, ap, sym, subst, inl, inr, arith}
use Rattle.std.proofs.lemmas.Bool.Decides.{nat_tests}
use Rattle.rx_model.specs.declared.answers.BadMsg.{BadMsg}
use Rattle.rx_model.specs.declared.answers.End.{End}
use Rattle.rx_model.specs.declared.answers.ReadGot.TheVariants as readers
use Rattle.rx_model.specs.declared.answers.ServeRead.{ServeRead}
use Rattle.rx_model.specs.declared.answers.ServeRead.TheVariants as reads
use Rattle.rx_model.specs.declared.answers.ServeRefused.{ServeRefused}
use Rattle.rx_model.specs.declared.answers.ServeRefused.TheVariants as refusals
use Rattle.rx_model.specs.declared.answers.Took.{Took}
use Rattle.rx_model.specs.declared.answers.Took.TheVariants as tooks
use Rattle.rx_model.specs.declared.answers.WroteGot.TheVariants as writers
use Rattle.rx_model.specs.declared.event.Event.{Event}
use Rattle.rx_model.specs.declared.event.Event.TheVariants as events
use Rattle.rx_model.specs.declared.names.CallName.{CallName}
use Rattle.rx_model.specs.declared.names.Host.{Host}
use Rattle.rx_rules.specs.After.{taken_message, after, finished, is_end, is_ok_end, is_zero, owing_abort, prepared}
use Rattle.rx_rules.specs.After.{taken_behind}
use Rattle.rx_model.specs.Body.{Body}
use Rattle.rx_model.specs.Body as bodies
use Rattle.rx_rules.specs.CallLooks.{after_shut, lead, packet_of}
use Rattle.rx_history.specs.Counts.{accepts, finishes}
use Rattle.rx_rules.specs.Judging.{outer_row}
use Rattle.rx_rules.specs.Life.{Life, after_accept, after_finish, after_gone, is_waiting}
use Rattle.rx_rules.specs.Life as lives
use Rattle.rx_rules.specs.Looks.{CallRecord, Looks, at_start, call_at, channel_at, conn_at, on_channel, on_life}
use Rattle.rx_rules.specs.Looks.{on_looks}
use Rattle.rx_model.specs.Message.{IsBytes, Message}
use Rattle.rx_model.specs.Names.{channel_of, connection_of, same_name}
use Rattle.rx_rules.specs.Received.{Packet, read_of}
use Rattle.rx_model.specs.Reading.{reading_of}
use Rattle.rx_rules.specs.Records.{is_silent, silence_of, silenced}
use Rattle.rx_rules.specs.Items.{poll_answer}
use Rattle.rx_model.specs.declared.answers.End.TheVariants as ends
use Rattle.rx_rules.specs.Rules.{AllowedServer, HasBytes, served_by, served_read, served_read_by}
use Rattle.rx_rules.specs.Rules.{served_write}
use Rattle.rx_rules.specs.Sent.{counting_of, held_pieces}
use Rattle.rx_rules.specs.Setup.{Setup, Kind, Server, Client, FitsSetup, IsServer, named}
use Rattle.rx_rules.specs.Slots.{left_slots, room}
use Rattle.rx_rules.proofs.ConnsLaws.{channel_number, number_of}
use Rattle.rx_model.proofs.NameLaws.{name_is, name_itself}
use Rattle.rx_history.proofs.Laws.SoundLaws.{Below, Sound}
use Rattle.rx_model.proofs.SpelledLaws.{spelled}
use Rattle.rx_history.proofs.Lives.{is_running, gone-moves}
use Rattle.rx_history.proofs.Calls.{calls-on_life, calls-silenced}
use Rattle.rx_history.proofs.Conns.{Conns}
use Rattle.rx_history.proofs.Data.{GoodCall, GoodName, OwnName, poll-gives}
use Rattle.rx_history.proofs.Events.{ReadFacts, behind-turn, call-by, calls-prepared, given-turn, life-changed}
use Rattle.rx_history.proofs.Events.{read-turn}
use Rattle.rx_history.proofs.Events.{server-facts, shut-turn, turn-by, wrote-turn}
use Rattle.rx_history.proofs.Numbers.{sound-ready, spared-ready}
use Rattle.rx_history.proofs.Places.{Spared}
use Rattle.rx_history.specs.Starts.{StartsBy, StartsNew}
use Rattle.rx_history.proofs.Takes.{Opens, OpensBy, StopCause, TakenWhy}
use Rattle.rx_history.proofs.Turns.{Still, Turn, calls-still, still-turn, turn-before, turn-behind}

-- ---- what comes

-- a packet of the call that a datagram brought
pub record Arrived (s : Setup) (l : Looks) (from : Host) (bytes : List ℕ) (c : CallName) (p : Packet) : Type 0 where
  pub message : Message
  pub payload : List ℕ
  pub reads : reading_of bytes ≡ Ok message
  pub front : outer_row s s.kind l from message ≡ None
  pub named_is : named s from message ≡ c
  pub body : message.body ≡ bodies.Chunk payload
  pub packet : p ≡ packet_of message payload

-- with this event, where it was kept
abbrev pub Arrives : Setup → Looks → Event → CallName → Packet → Type 0
Arrives s l (events.Taken from bytes tooks.Kept) c p = Arrived s l from bytes c p
Arrives s l _ c p = ⊥

-- ---- what stands of every call

pub record Standing (s : Setup) (l : Looks) : Type 0 where
  pub conns : Conns s l
  pub calls : (c : CallName) → GoodCall s l c

pub none-yet : (s : Setup) → Standing s at_start
none-yet s =
    record {
      conns = tt;
      calls = λ c. record { sends = record { counts = omega arith; fits = omega arith }; named = λ is. absurd cc };
    }

-- a call goes on well
pub good-turn : (Safe Served : Type 0) (Cause : End → Type 0) (Comes : Packet → Type 0) (s : Setup) (l m : Looks)
    (c : CallName)
    → Turn Safe Served (GoodName s c) Cause Comes (call_at l c) (call_at m c) → GoodCall s l c → GoodCall s m c
good-turn Safe Served Cause Comes s l m c turn good =
    record {
      sends = turn.sends good.sends;
      named = λ is. (elim (turn.named is) as (λ t. GoodName s c) [
        | inl before ↦ good.named before
        | inr now ↦ now
      ]);
    }

-- what a silent poll leaves
pub good-silenced : (s : Setup) (l : Looks) (c : CallName) → GoodCall s l c → GoodCall s (silenced l) c
good-silenced s l c good =
    let still : Still ⊥ ⊥ ⊥ (λ end. Unit {0}) (call_at l c) (call_at (silenced l) c) =
    calls-still ⊥ ⊥ ⊥ (λ end. Unit {0}) (call_at l c) (call_at (silenced l) c)
    (calls-silenced (λ end. Unit {0}) c l (λ k there silent. tt)) in
    record {
      sends = still.sends good.sends;
      named = λ is. (elim (still.named is) as (λ t. GoodName s c) [
        | inl before ↦ good.named before
        | inr none ↦ absurd none
      ]);
    }

-- ---- the rules of a server

-- the numbers of a message that was read fit
pub read-fits-own : (s : Setup) (from : Host) (bytes : List ℕ) (m : Message) → OwnName s.kind (named s from m)
    → IsBytes bytes
    → reading_of bytes ≡ Ok m → GoodName s (named s from m)
read-fits-own s from bytes m own is_bytes reads =
    let f = (spelled bytes m is_bytes reads).fits in
    let epoch = f.epoch in
    let cid = f.cid in
    let number = f.number in
    record { epoch = f.epoch; whole = omega arith; split = omega arith; number = f.number; own = own }

pub read-fits : (s : Setup) (from : Host) (bytes : List ℕ) (m : Message) → IsServer s.kind → IsBytes bytes
    → reading_of bytes ≡ Ok m
    → GoodName s (named s from m)
read-fits s from bytes m server is_bytes reads =
    read-fits-own s from bytes m (own s.kind server) is_bytes reads
  where
    own : (kind : Kind) → IsServer kind → OwnName kind (named s from m)
    own (Server service nonces) server = tt
    own (Client host epoch) server = absurd server

room-low : (window more n held : ℕ) → n ≤ 1412 * 4294967294
    → n + (1412 * ((n + (1412 - 1)) / 1412 + min (min (window - held) more)
    (2 ^ 32 - 2 - (n + (1412 - 1)) / 1412)) - n) ≤ 1412 * 4294967294
room-low window more n held low = omega arith

-- a write leaves the stream within its seqs
pub write-low : (s : Setup) (l : Looks) (k : CallRecord) (offered : ℕ) (bytes : List ℕ)
    → length bytes ≤ room s l k.looks
    → length k.looks.sent.said ≤ 1412 * 4294967294 → length k.looks.sent.said + length bytes ≤ 1412 * 4294967294
write-low s l k offered bytes within low =
    let top = room-low s.limits.window (left_slots s l + 1 - lead k.looks) (length k.looks.sent.said)
    (held_pieces k.looks.sent) low in
    omega arith

none-long : (bytes : List ℕ) → bytes ≡ [] → length bytes ≡ 0
none-long bytes none = ap (λ (xs : List ℕ). length xs) none

pub record WriteFacts (Safe : Type 0) (k : CallRecord) (bytes : List ℕ) : Type 0 where
  pub stops : Safe → k.looks.sent.shut ≡ true → bytes ≡ []
  pub low : length k.looks.sent.said ≤ 1412 * 4294967294 → length k.looks.sent.said + length bytes ≤ 1412 * 4294967294

pub nothing-written : (Safe : Type 0) (k : CallRecord) (bytes : List ℕ) → bytes ≡ [] → WriteFacts Safe k bytes
nothing-written Safe k bytes none =
    record { stops = λ safe shut. none; low = λ low. (let zero = none-long bytes none in omega arith) }

serve-facts : (Safe : Type 0) (s : Setup) (l : Looks) (k : CallRecord) (life : Life) (ended : Bool) (offered : ℕ)
    (got : Result ℕ ServeRefused) (bytes : List ℕ)
    → (Safe → is_running life ≡ true → k.looks.sent.shut ≡ false)
    → got ≡ served_by life ended (min offered (room s l k.looks)) → HasBytes got bytes → WriteFacts Safe k bytes
serve-facts Safe s l k lives.Accepted true offered got bytes unshut is has =
    let long : length bytes ≡ min offered (room s l k.looks) =
    subst (λ (r : Result ℕ ServeRefused). HasBytes r bytes) is has in
    record {
      stops = λ safe shut. absurd (let un = unshut safe refl in cc (shut, un));
      low = write-low s l k offered bytes (omega arith);
    }
serve-facts Safe s l k lives.Accepted false offered got bytes unshut is has =
    nothing-written Safe k bytes (subst (λ (r : Result ℕ ServeRefused). HasBytes r bytes) is has)
serve-facts Safe s l k (lives.Broken code) ended offered got bytes unshut is has =
    nothing-written Safe k bytes (subst (λ (r : Result ℕ ServeRefused). HasBytes r bytes) is has)
serve-facts Safe s l k _ ended offered got bytes unshut is has =
    nothing-written Safe k bytes (subst (λ (r : Result ℕ ServeRefused). HasBytes r bytes) is has)

pub read-server : (k : CallRecord) (max : ℕ) (got : ServeRead) (bytes : List ℕ)
    → ◌≡◌ {A = ServeRead × List ℕ} (got, bytes) (served_read_by k.life (read_of k.looks.received max))
    → ReadFacts k (is_end (readers.Server got)) bytes
read-server k max got bytes is =
    subst (λ (p : ServeRead × List ℕ). ReadFacts k (is_end (readers.Server p.0)) p.1) (sym is)
    (server-facts k k.life max)

-- where the lives step
accept-fine : (x : Life) → is_ok_end (after_accept x) ≡ true → is_ok_end x ≡ true
accept-fine lives.Waiting is = absurd cc
accept-fine lives.Calling is = is
accept-fine (lives.Ended end) is = is
accept-fine lives.Accepted is = is
accept-fine lives.Finished is = is
accept-fine (lives.Broken code) is = is
accept-fine (lives.Over code) is = is

finish-fine : (zero : Bool) (code : ℤ) (x : Life) → is_ok_end (after_finish zero code x) ≡ true → is_ok_end x ≡ true
finish-fine true code lives.Accepted is = absurd cc
finish-fine true code lives.Waiting is = is
finish-fine true code lives.Calling is = is
finish-fine true code (lives.Ended end) is = is
finish-fine true code lives.Finished is = is
finish-fine true code (lives.Broken before) is = is
finish-fine true code (lives.Over before) is = is
finish-fine false code lives.Accepted is = absurd cc
finish-fine false code lives.Waiting is = is
finish-fine false code lives.Calling is = is
finish-fine false code (lives.Ended end) is = is
finish-fine false code lives.Finished is = is
finish-fine false code (lives.Broken before) is = is
finish-fine false code (lives.Over before) is = is

-- it is neither accepted nor finished by the event
abbrev pub Uncounted : Event → CallName → Type 0
Uncounted e c = (accepts e c ≡ false) × (finishes e c ≡ false)

module _ (Safe : Type 0) (c : CallName) (s : Setup) (l : Looks) where
  abbrev pub ServerTurn : Event → Type 0
  ServerTurn e = Turn Safe (Uncounted e c) (GoodName s c) (λ end. Unit {0}) (Arrives s l e c) (call_at l c)
      (call_at (after s e l) c)

  kept-why : (from : Host) (bytes : List ℕ) (got : Took) (m : Message) → reading_of bytes ≡ Ok m
      → outer_row s s.kind l from m ≡ None
      → TakenWhy (λ end. Unit {0}) (Arrives s l (events.Taken from bytes got) c) c (named s from m) m got
  kept-why from bytes tooks.Kept m reads front =
      λ payload same body. record {
        message = m;
        payload = payload;
        reads = reads;
        front = front;
        named_is = sym (name_is c (named s from m) same);
        body = body;
        packet = refl;
      }
  kept-why from bytes tooks.Stopped m reads front = stopped m.body
    where
      stopped : (body : Body) → StopCause (λ end. Unit {0}) c (named s from m) body
      stopped (bodies.Abort code) = λ why. tt
      stopped (bodies.Response answer) = λ why. tt
      stopped _ = tt
  kept-why from bytes tooks.Busy m reads front = tt
  kept-why from bytes _ m reads front = tt

  -- where its number is above its channel's a call has no record
  pub opens : (m : Looks) (d : CallName) → same_name c d ≡ true → Sound m c 0
      → nat_lt (channel_at m (channel_of d)).number d.number ≡ true
      → call_at m d ≡ None
  opens m d same sound above =
      let is : c ≡ d = name_is c d same in
      let own : Sound m d 0 = subst (λ (n : CallName). Sound m n 0) is sound in
      let top : number_of (conn_at m (connection_of d)) d.chan < d.number =
      subst (λ (n : ℕ). n < d.number) (channel_number m (channel_of d))
      (is-below (channel_at m (channel_of d)).number d.number above) in
      of (call_at m d) own.below top
    where
      is-below : (a b : ℕ) → nat_lt a b ≡ true → a < b
      is-below a b h = grind (arith, nat_tests)

      of : (o : Option CallRecord) → Below o d.number (number_of (conn_at m (connection_of d)) d.chan)
          → number_of (conn_at m (connection_of d)) d.chan < d.number → o ≡ None
      of None below top = refl
      of (Some k) below top = absurd (omega arith)

  starts-opens : (from : Host) (bytes : List ℕ) (got : Took) (m : Message) → reading_of bytes ≡ Ok m
      → outer_row s s.kind l from m ≡ None
      → (Safe → StartsNew s l (events.Taken from bytes got) c)
      → OpensBy Safe c (prepared s got (connection_of (named s from m)) l) (named s from m) got
  starts-opens from bytes got m reads front new = of got new
    where
      d : CallName
      d = named s from m

      starts : (got : Took) → (Safe → StartsBy s l from bytes c got)
          → Opens Safe c (prepared s got (connection_of d) l) d
      starts got new same safe above =
          let is : c ≡ d = name_is c d same in
          let mine : nat_lt (channel_at (prepared s got (connection_of c) l) (channel_of c)).number c.number ≡ true =
          subst (λ (n : CallName). nat_lt (channel_at (prepared s got (connection_of n) l)
          (channel_of n)).number n.number ≡ true) (sym is) above in
          let none = new safe m reads front (sym is) mine in
          call-by d l (prepared s got (connection_of d) l) (calls-prepared s got (connection_of d) l)
          ∙ subst (λ (n : CallName). call_at l n ≡ None) is none

      of : (got : Took) → (Safe → StartsNew s l (events.Taken from bytes got) c)
          → OpensBy Safe c (prepared s got (connection_of d) l) d got
      of tooks.Kept new = starts tooks.Kept new
      of tooks.NoSlot new = starts tooks.NoSlot new
      of _ new = tt

  message-turn : (from : Host) (bytes : List ℕ) (got : Took) (reading : Result Message BadMsg)
      → reading_of bytes ≡ reading → IsServer s.kind → IsBytes bytes
      → (Safe → StartsNew s l (events.Taken from bytes got) c)
      → Turn Safe (Uncounted (events.Taken from bytes got) c) (GoodName s c) (λ end. Unit {0})
      (Arrives s l (events.Taken from bytes got) c) (call_at l c)
      (call_at (taken_message s from reading got l) c)
  message-turn from bytes got (Err bad) reads server is_bytes new =
      turn-by Safe (Uncounted (events.Taken from bytes got) c) (GoodName s c) (λ end. Unit {0})
      (Arrives s l (events.Taken from bytes got) c) c l l refl
  message-turn from bytes got (Ok m) reads server is_bytes new = behind (outer_row s s.kind l from m) refl
    where
      d : CallName
      d = named s from m

      behind : (row : Option Took) → outer_row s s.kind l from m ≡ row
          → Turn Safe (Uncounted (events.Taken from bytes got) c) (GoodName s c) (λ end. Unit {0})
          (Arrives s l (events.Taken from bytes got) c) (call_at l c)
          (call_at (taken_behind s row from d m got l) c)
      behind row front =
          behind-turn Safe (Uncounted (events.Taken from bytes got) c) (GoodName s c) (λ end. Unit {0})
          (Arrives s l (events.Taken from bytes got) c) c
          s row from d m got l
          (λ none. (
            starts-opens from bytes got m reads (front ∙ none) new,
            (λ same. subst (λ (n : CallName). GoodName s n) (sym (name_is c d same))
                (read-fits s from bytes m server is_bytes reads)),
            kept-why from bytes got m reads (front ∙ none),
          ))

  -- a connection of which no record was forgotten starts no call anew
  pub spared-starts : (e : Event) → Sound l c 0 → Spared (connection_of c) (after s e l) → StartsNew s l e c
  spared-starts (events.Taken from bytes tooks.Kept) sound spared = λ m reads front at_call above. at tooks.Kept from
      bytes sound spared m reads front at_call above
    where
      at : (got : Took) (from : Host) (bytes : List ℕ) → Sound l c 0
          → Spared (connection_of c) (taken_message s from (reading_of bytes) got l)
          → StartsBy s l from bytes c got
      at got from bytes sound spared m reads front at_call above =
          let behind : Spared (connection_of c) (taken_behind s None from (named s from m) m got l) =
          subst (λ (r : Option Took). Spared (connection_of c) (taken_behind s r from (named s from m) m got l)) front
          (subst (λ (r : Result Message BadMsg). Spared (connection_of c)
          (taken_message s from r got l)) reads spared) in
          let ready = spared-ready (connection_of c) s from (named s from m) m got l behind in
          let own = subst (λ (n : CallName). Spared (connection_of c)
          (prepared s got (connection_of n) l)) at_call ready in
          sym (call-by c l (prepared s got (connection_of c) l) (calls-prepared s got (connection_of c) l))
          ∙ opens (prepared s got (connection_of c) l) c (name_itself c)
          (sound-ready s got c (connection_of c) l own sound) above
  spared-starts (events.Taken from bytes tooks.NoSlot) sound spared = λ m reads front at_call above. (
      let behind : Spared (connection_of c) (taken_behind s None from (named s from m) m tooks.NoSlot l) =
      subst (λ (r : Option Took). Spared (connection_of c) (taken_behind s r from
      (named s from m) m tooks.NoSlot l)) front
      (subst (λ (r : Result Message BadMsg). Spared (connection_of c)
      (taken_message s from r tooks.NoSlot l)) reads spared) in
      let ready = spared-ready (connection_of c) s from (named s from m) m tooks.NoSlot l behind in
      let own = subst (λ (n : CallName). Spared (connection_of c)
      (prepared s tooks.NoSlot (connection_of n) l)) at_call ready in
      sym (call-by c l (prepared s tooks.NoSlot (connection_of c) l)
      (calls-prepared s tooks.NoSlot (connection_of c) l))
      ∙ opens (prepared s tooks.NoSlot (connection_of c) l) c (name_itself c)
      (sound-ready s tooks.NoSlot c (connection_of c) l own sound) above)
  spared-starts _ sound spared = tt

  -- ---- each event

  counted-none : (e : Event) → accepts e c ≡ true → Uncounted e c → ⊥
  counted-none e is un = absurd (let no' = un.0 in cc (is, no'))

  finish-none : (d : CallName) (code : ℤ) → same_name c d ≡ true → Uncounted (events.Finished d code (Ok tt)) c → ⊥
  finish-none d code same un = absurd (let out : (same_name c d && true)
      ≡ false = un.1 in let yes : (same_name c d && true) ≡ true = rw same refl in cc (out, yes))

  gives-counts : (got : Option (Host × List ℕ)) → FitsSetup s → Standing s l → got ≡ poll_answer s l
      → (to : Host) (bytes : List ℕ) (m : Message) (payload : List ℕ) (k : CallRecord) → got ≡ Some (to, bytes)
      → reading_of bytes ≡ Ok m
      → m.body ≡ bodies.Chunk payload → same_name c (named s to m) ≡ true → call_at (silenced l) c ≡ Some k
      → m.seq ≤ counting_of k.looks.sent
  gives-counts got fits standing answer to bytes m payload k is reads chunk same there =
      let g = poll-gives s (silenced l) l.strays to bytes m payload fits standing.conns
      (λ d. good-silenced s l d (standing.calls d))
      (sym answer ∙ is) reads chunk in
      let mine : call_at (silenced l) (named s to m) ≡ Some k = subst
      (λ (n : CallName). call_at (silenced l) n ≡ Some k) (name_is c (named s to m) same) there in
      let one : g.call ≡ k = some_call g.call k (sym g.there ∙ mine) in
      let seq = g.seq in
      let counts : suc g.behind ≤ counting_of k.looks.sent = subst
      (λ (j : CallRecord). suc g.behind ≤ counting_of j.looks.sent) one g.counts in
      omega arith
    where
      some_call : (a b : CallRecord) → Some a ≡ Some b → a ≡ b
      some_call a b is = cc

  pub polled-turn : (Served : Type 0) (Cause : End → Type 0) (Comes : Packet → Type 0) (got : Option (Host × List ℕ))
      → FitsSetup s → Standing s l
      → got ≡ poll_answer s l
      → ((k : CallRecord) → call_at l c ≡ Some k → is_silent l.now k ≡ true → Cause (ends.Dead (silence_of l.now k)))
      → Turn Safe Served (GoodName s c) Cause Comes (call_at l c) (call_at (after s (events.Polled got) l) c)
  polled-turn Served Cause Comes got fits standing answer cause =
      turn-before Safe Served (GoodName s c) Cause Comes (call_at l c) (call_at (silenced l) c)
      (call_at (after s (events.Polled got) l) c)
      (calls-still Safe Served (GoodName s c) Cause (call_at l c) (call_at (silenced l) c)
      (calls-silenced Cause c l cause))
      (given-turn Safe Served (GoodName s c) Cause Comes c s got (silenced l)
      (λ to bytes m payload k is reads chunk same there. gives-counts got fits standing answer to bytes m payload k is
      reads chunk same there))

  done-turn : (d : CallName) (code : ℤ) → ServerTurn (events.Finished d code (Ok tt))
  done-turn d code =
      let e : Event = events.Finished d code (Ok tt) in
      turn-behind Safe (Uncounted e c) (GoodName s c) (λ end. Unit {0}) (Arrives s l e c) (call_at l c)
      (call_at (finished d code l) c) (call_at (after s e l) c)
      (first (is_zero code))
      (life-changed Safe (Uncounted e c) (GoodName s c) (λ end. Unit {0}) (Arrives s l e c) c d
      (after_finish (is_zero code) code) (finished d code l)
      (finish-fine (is_zero code) code) (λ x end same is. inr tt) (finish-none d code))
    where
      first : (b : Bool) → Turn Safe (Uncounted (events.Finished d code (Ok tt)) c) (GoodName s c) (λ end. Unit {0})
          (Arrives s l (events.Finished d code (Ok tt)) c) (call_at l c)
          (call_at (if b then on_looks d after_shut l else on_channel (channel_of d) (owing_abort (Some code)) l) c)
      first true = shut-turn Safe (Uncounted (events.Finished d code (Ok tt)) c) (GoodName s c) (λ end. Unit {0})
          (Arrives s l (events.Finished d code (Ok tt)) c) c d l (finish-none d code)
      first false = turn-by Safe (Uncounted (events.Finished d code (Ok tt)) c) (GoodName s c) (λ end. Unit {0})
          (Arrives s l (events.Finished d code (Ok tt)) c) c l l refl

  pub server-turn : (e : Event) → IsServer s.kind → FitsSetup s → AllowedServer s l e → Standing s l
      → (Safe → StartsNew s l e c)
      → (Safe → (k : CallRecord) → call_at l c ≡ Some k → is_running k.life ≡ true → k.looks.sent.shut ≡ false)
      → ServerTurn e
  server-turn (events.Accepted (Some d)) server fits allowed standing new unshut =
      let e : Event = events.Accepted (Some d) in
      still-turn Safe (Uncounted e c) (GoodName s c) (λ end. Unit {0}) (Arrives s l e c) (call_at l c)
      (call_at (after s e l) c)
      (life-changed Safe (Uncounted e c) (GoodName s c) (λ end. Unit {0})
      (Arrives s l e c) c d after_accept l accept-fine (λ x end same is. inr tt)
      (λ same un. counted-none e same un))
  server-turn (events.Accepted None) server fits allowed standing new unshut =
      turn-by Safe (Uncounted (events.Accepted None) c) (GoodName s c) (λ end. Unit {0})
      (Arrives s l (events.Accepted None) c) c l l refl
  server-turn (events.Wrote d offered (writers.Server got) bytes) server fits allowed standing new unshut =
      let e : Event = events.Wrote d offered (writers.Server got) bytes in
      wrote-turn Safe (Uncounted e c) (GoodName s c) (λ end. Unit {0}) (Arrives s l e c) c d bytes l
      (λ k same is. (
      let at : call_at l d ≡ Some k = subst (λ (n : CallName). call_at l n ≡ Some k) (name_is c d same) is in
      let answer : got ≡ served_write s l (Some k) offered = subst
      (λ (o : Option CallRecord). got ≡ served_write s l o offered) at allowed.0 in
      let f = serve-facts Safe s l k k.life k.looks.received.ended offered got bytes
      (λ safe runs. unshut safe k is runs) answer allowed.2 in
      (f.stops, f.low)))
  server-turn (events.Wrote d offered
      (writers.Client got) bytes) server fits allowed standing new unshut = absurd allowed
  server-turn (events.HasRead d max (readers.Server got) bytes) server fits allowed standing new unshut =
      let e : Event = events.HasRead d max (readers.Server got) bytes in
      read-turn Safe (Uncounted e c) (GoodName s c) (λ end. Unit {0}) (Arrives s l e c) c d
      (is_end (readers.Server got)) bytes l tt
      (λ k same is safe. (
      let at : call_at l d ≡ Some k = subst (λ (n : CallName). call_at l n ≡ Some k) (name_is c d same) is in
      read-server k max got bytes (allowed.1 ∙ ap (λ (o : Option CallRecord). served_read o max) at)))
  server-turn (events.HasRead d max (readers.Client got) bytes) server fits allowed standing new unshut = absurd allowed
  server-turn (events.Finished d code (Ok done)) server fits allowed standing new unshut = done-turn d code
  server-turn (events.Finished d code (Err (refusals.Gone told))) server fits allowed standing new unshut =
      let e : Event = events.Finished d code (Err (refusals.Gone told)) in
      still-turn Safe (Uncounted e c) (GoodName s c) (λ end. Unit {0}) (Arrives s l e c) (call_at l c)
      (call_at (on_life d after_gone l) c)
      (calls-still Safe (Uncounted e c) (GoodName s c) (λ end. Unit {0}) (call_at l c)
      (call_at (on_life d after_gone l) c)
      (calls-on_life (λ end. Unit {0}) c d after_gone l (gone-moves (λ end. Unit {0}))))
  server-turn (events.Finished d code (Err refusals.NotOpen)) server fits allowed standing new unshut =
      turn-by Safe _ (GoodName s c) (λ end. Unit {0}) (Arrives s l
      (events.Finished d code (Err refusals.NotOpen)) c) c l l refl
  server-turn (events.Finished d code (Err refusals.Unread)) server fits allowed standing new unshut =
      turn-by Safe _ (GoodName s c) (λ end. Unit {0}) (Arrives s l
      (events.Finished d code (Err refusals.Unread)) c) c l l refl
  server-turn (events.Taken from bytes got) server fits allowed standing new unshut =
      message-turn from bytes got (reading_of bytes) refl server allowed.0 new
  server-turn (events.Polled got) server fits allowed standing new unshut =
      polled-turn (Uncounted (events.Polled got) c) (λ end. Unit {0})
      (Arrives s l (events.Polled got) c) got fits standing allowed (λ k there silent. tt)
  server-turn (events.Clocked now) server fits allowed standing new unshut =
      turn-by Safe (Uncounted (events.Clocked now) c) (GoodName s c) (λ end. Unit {0})
      (Arrives s l (events.Clocked now) c) c l (record l { now = now }) refl
  server-turn (events.Linked to service first got) server fits allowed standing new unshut = absurd allowed
  server-turn (events.Called cid got) server fits allowed standing new unshut = absurd allowed
  server-turn (events.Shut d got) server fits allowed standing new unshut = absurd allowed
  server-turn (events.Ended d got) server fits allowed standing new unshut = absurd allowed
  server-turn (events.Cancelled d code got) server fits allowed standing new unshut = absurd allowed
