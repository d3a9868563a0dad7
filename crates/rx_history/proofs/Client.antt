-- A client's side: what each event makes of each call.
use Rattle.std.proofs.Common.{◌≡◌, ◌⊎◌, ◌&&◌, ◌==◌, ◌<◌, ◌≤◌, ◌+◌, ◌-◌, ◌^◌, ℕ, ℤ, suc, zero, cond, if◌then◌else◌, not}
use Rattle.std.proofs.Common.{min}
use Rattle.std.proofs.Common.{nat_le, is_some, Bool, true, false, List, [], ◌∷◌, length}
use Rattle.std.proofs.Common.{Option, Some, None, Result, Ok, Err, refl, ◌∙◌, ap, sym, subst, inl, inr, arith}
use Rattle.std.proofs.lemmas.Bool.Decides.{nat_tests}
use Rattle.rx_model.specs.declared.answers.BadMsg.{BadMsg}
use Rattle.rx_model.specs.declared.answers.End.{End}
use Rattle.rx_model.specs.declared.answers.End.TheVariants as ends
use Rattle.rx_model.specs.declared.answers.NotOpen.{NotOpen}
use Rattle.rx_model.specs.declared.answers.ReadAns.{ReadAns}
use Rattle.rx_model.specs.declared.answers.ReadAns.TheVariants as answers
use Rattle.rx_model.specs.declared.answers.ReadGot.TheVariants as readers
use Rattle.rx_model.specs.declared.answers.Took.{Took}
use Rattle.rx_model.specs.declared.answers.Took.TheVariants as tooks
use Rattle.rx_model.specs.declared.answers.WroteGot.TheVariants as writers
use Rattle.rx_model.specs.declared.event.Event.{Event}
use Rattle.rx_model.specs.declared.event.Event.TheVariants as events
use Rattle.rx_model.specs.declared.names.CallName.{CallName}
use Rattle.rx_model.specs.declared.names.Host.{Host}
use Rattle.rx_model.specs.declared.wire.TheConstants.{SILENCE_MS, CLIENT_INITIATED}
use Rattle.rx_rules.specs.After.{after, cancelled, is_end, is_ok_end, linked, prepared, taken_behind, taken_message}
use Rattle.rx_model.specs.Body.{Body}
use Rattle.rx_model.specs.Body as bodies
use Rattle.rx_rules.specs.CallLooks.{CallLooks, NodeView, call_row}
use Rattle.rx_rules.specs.Slots.{node_view, room}
use Rattle.rx_rules.specs.Judging.{Facts, client_row, else_row, facts_of, outer_row, is_for_clients, is_peer, live_row}
use Rattle.rx_rules.specs.Judging.{opened, own_row}
use Rattle.rx_rules.specs.Sent.{is_strange_ack, is_all_given}
use Rattle.rx_rules.specs.Looks.{is_proved}
use Rattle.rx_rules.specs.Judging.{is_right, row_at, side_row, took_named, took_reading}
use Rattle.rx_rules.specs.Life.{Life, after_cancel, is_live, is_waiting}
use Rattle.rx_rules.specs.Life as lives
use Rattle.rx_rules.specs.Looks.{CallRecord, ChannelLooks, ConnLooks, Looks, call_at, channel_at, conn_at}
use Rattle.rx_model.specs.Message.{IsBytes, Message, has_flag}
use Rattle.rx_model.specs.Names.{Connection, channel_of, connection_of, same_connection, same_name}
use Rattle.rx_rules.specs.Received.{Arrival, arrival_row}
use Rattle.rx_model.specs.Reading.{reading_of}
use Rattle.rx_rules.specs.Records.{silence_of, started}
use Rattle.rx_rules.specs.Rules.{AllowedClient, HasBytes, call_answer, client_read, client_write}
use Rattle.rx_rules.specs.Rules.{next_number, own_call}
use Rattle.rx_rules.specs.Setup.{Setup, Kind, Server, Client, FitsSetup, FitsKind, client_host, named}
use Rattle.rx_history.specs.Streams.{end_of_life}
use Rattle.rx_rules.proofs.ConnsLaws.{channel_number, number_in, number_of}
use Rattle.rx_rules.proofs.FindLaws.{find_passes}
use Rattle.rx_model.proofs.NameLaws.{both, connection_is, name_is, same_number}
use Rattle.rx_history.proofs.Laws.SoundLaws.{Below, Sound}
use Rattle.rx_history.proofs.Conns.{Conns, GoodConn, OfKind, found-good}
use Rattle.rx_history.proofs.Data.{GoodName, OwnName}
use Rattle.rx_history.proofs.Events.{ReadFacts, behind-turn, client-facts, life-changed, nothing-read, read-turn}
use Rattle.rx_history.proofs.Events.{shut-turn}
use Rattle.rx_history.proofs.Events.{turn-by, wrote-turn}
use Rattle.rx_history.proofs.Numbers.{client-known, new-call, next-above, sound-ready, spared-ready}
use Rattle.rx_rules.proofs.EveryLaws.{Every}
use Rattle.rx_history.proofs.Places.{Spared}
use Rattle.rx_history.proofs.Server.{Arrives, Standing, WriteFacts, nothing-written, opens, polled-turn, read-fits-own}
use Rattle.rx_history.proofs.Server.{write-low}
use Rattle.rx_history.proofs.Takes.{StopCause, TakenWhy, opens-by, start-still}
use Rattle.rx_history.proofs.Turns.{Fine, Turn, still-turn}
use Rattle.rx_history.proofs.Lives.{same_end}

-- ---- why a client's call ends

-- an ABORT of the call, or of its connection, came
pub record StoppedBy (s : Setup) (l : Looks) (from : Host) (bytes : List ℕ) (c : CallName) (code : ℤ) : Type 0 where
  pub message : Message
  pub reads : reading_of bytes ≡ Ok message
  pub front : outer_row s s.kind l from message ≡ None
  pub body : message.body ≡ bodies.Abort code
  pub name : (named s from message ≡ c) ⊎ ((message.number ≡ 0)
      × (connection_of (named s from message) ≡ connection_of c))

-- nothing was heard of it for so long
pub record SilentFor (l : Looks) (c : CallName) (n : ℕ) : Type 0 where
  pub call : CallRecord
  pub there : call_at l c ≡ Some call
  pub long : SILENCE_MS ≤ n
  pub is : n ≡ silence_of l.now call

abbrev pub Stops : Setup → Looks → Event → CallName → ℤ → Type 0
Stops s l (events.Taken from bytes tooks.Stopped) c code = StoppedBy s l from bytes c code
Stops s l _ c code = ⊥

abbrev pub Silences : Looks → Event → CallName → ℕ → Type 0
Silences l (events.Polled got) c n = SilentFor l c n
Silences l _ c n = ⊥

abbrev pub Gives-up : Event → CallName → ℤ → Type 0
Gives-up (events.Cancelled d told (Ok done)) c code = (d ≡ c) × (told ≡ code)
Gives-up _ c code = ⊥

abbrev pub CauseBy : Setup → Looks → Event → CallName → End → Type 0
CauseBy s l e c ends.Ok = Unit {0}
CauseBy s l e c (ends.Abort code) = Stops s l e c code
CauseBy s l e c (ends.Dead n) = Silences l e c n
CauseBy s l e c (ends.Cancelled code) = Gives-up e c code

-- ---- no row of a client says Busy

arrival-busy : (a : Arrival) → arrival_row a ≡ tooks.Busy → ⊥
arrival-busy a is = of a.is_strange a.is_repeat a.is_beyond a.is_clash a.has_slot is
  where
    of : (b c d e f : Bool) → (if b then tooks.Strange else if c then tooks.Repeat else if d then tooks.Beyond
        else if e then tooks.Clash else if f then tooks.Kept else tooks.NoSlot) ≡ tooks.Busy → ⊥
    of true c d e f is = absurd cc
    of false true d e f is = absurd cc
    of false false true e f is = absurd cc
    of false false false true f is = absurd cc
    of false false false false true is = absurd cc
    of false false false false false is = absurd cc

if-busy : (b : Bool) (x y : Took) → (x ≡ tooks.Busy → ⊥) → (y ≡ tooks.Busy → ⊥) → (if b then x else y) ≡ tooks.Busy → ⊥
if-busy true x y p q is = p is
if-busy false x y p q is = q is

heard-busy : tooks.Heard ≡ tooks.Busy → ⊥
heard-busy is = absurd cc

strange-busy : tooks.Strange ≡ tooks.Busy → ⊥
strange-busy is = absurd cc

call-busy : (v : NodeView) (m : Message) (body : Body) (k : CallLooks) → call_row v m body k ≡ tooks.Busy → ⊥
call-busy v m (bodies.Chunk payload) k is = arrival-busy _ is
call-busy v m (bodies.Ack a) k is = if-busy
    (is_strange_ack a.first a.marks k.sent) tooks.Strange tooks.Heard strange-busy heard-busy is
call-busy v m bodies.AckAll k is = if-busy (is_all_given k.sent) tooks.Heard tooks.Strange heard-busy strange-busy is
call-busy v m bodies.Busy k is = absurd cc
call-busy v m (bodies.Abort code) k is = absurd cc
call-busy v m (bodies.Challenge bytes) k is = absurd cc
call-busy v m (bodies.Response bytes) k is = absurd cc

live-busy : (s : Setup) (l : Looks) (k : CallRecord) (m : Message) (body : Body) → m.body ≡ body
    → live_row s l k m body ≡ tooks.Busy → ⊥
live-busy s l k m (bodies.Response bytes) at is =
    if-busy (is_right s l k.name bytes) tooks.Heard (if is_proved l
    (connection_of k.name) then tooks.Strange else tooks.Stopped) heard-busy
    (λ e. if-busy (is_proved l (connection_of k.name)) tooks.Strange tooks.Stopped strange-busy (λ f. absurd cc) e) is
live-busy s l k m (bodies.Challenge bytes) at is =
    if-busy (is_some (s.class.respond k.name bytes)) tooks.Heard tooks.Strange heard-busy strange-busy is
live-busy s l k m (bodies.Chunk payload) at is = call-busy (node_view s l) m m.body k.looks is
live-busy s l k m bodies.Busy at is = call-busy (node_view s l) m m.body k.looks is
live-busy s l k m (bodies.Ack a) at is = call-busy (node_view s l) m m.body k.looks is
live-busy s l k m (bodies.Abort code) at is = call-busy (node_view s l) m m.body k.looks is
live-busy s l k m bodies.AckAll at is = call-busy (node_view s l) m m.body k.looks is

row-busy : (s : Setup) (l : Looks) (o : Option CallRecord) (m : Message) → row_at s l o m ≡ tooks.Busy → ⊥
row-busy s l None m is = absurd cc
row-busy s l (Some k) m is = live-busy s l k m m.body refl is

client-busy : (f : Facts) (call : Took) → (call ≡ tooks.Busy → ⊥) → client_row f call ≡ tooks.Busy → ⊥
client-busy f call own is = of f.stops_all (not f.has_number) f.is_below f.is_above (not f.is_active) is
  where
    of : (b c d e g : Bool)
        → (if b then tooks.Stopped else if c then tooks.Strange else if d then tooks.Old else if e then tooks.Strange
        else if g then tooks.Over else call) ≡ tooks.Busy → ⊥
    of true c d e g is = absurd cc
    of false true d e g is = absurd cc
    of false false true e g is = absurd cc
    of false false false true g is = absurd cc
    of false false false false true is = absurd cc
    of false false false false false is = own is

named-busy : (s : Setup) (kind : Kind) (host : Host) (epoch : ℕ) (l : Looks) (c : CallName) (m : Message) → kind
    ≡ Client host epoch
    → side_row kind (facts_of s l c m) (own_row s (opened s c l) c m) ≡ tooks.Busy → ⊥
named-busy s (Client h e) host epoch l c m is busy =
    client-busy (facts_of s l c m) (own_row s (opened s c l) c m)
    (row-busy s (opened s c l) (call_at (opened s c l) c) m) busy
named-busy s (Server service nonces) host epoch l c m is busy = absurd cc

-- a client is never busy
pub never-busy : (s : Setup) (host : Host) (epoch : ℕ) (l : Looks) (from : Host) (m : Message) → s.kind
    ≡ Client host epoch
    → outer_row s s.kind l from m ≡ None → tooks.Busy ≡ took_reading s l from (Ok m) → ⊥
never-busy s host epoch l from m kind front is =
    let row : tooks.Busy ≡ took_named s l (named s from m) m = is
    ∙ ap (λ (o : Option Took). else_row o (took_named s l (named s from m) m)) front in
    named-busy s s.kind host epoch l (named s from m) m kind (sym row)

-- nor is a RESPONSE for it
no-response : (s : Setup) (kind : Kind) (host : Host) (epoch : ℕ) (l : Looks) (from : Host) (m : Message)
    (bytes : List ℕ) → kind ≡ Client host epoch
    → m.body ≡ bodies.Response bytes → outer_row s kind l from m ≡ None → ⊥
no-response s (Server service nonces) host epoch l from m bytes is body front = absurd cc
no-response s (Client h e) host epoch l from m bytes is body front =
    of (has_flag CLIENT_INITIATED m.flags) (not (is_peer from (conn_at l (connection_of (named s from m)))))
    (m.index == s.class.index) (is_for_clients s.class.challenges m.body)
    (ap (is_for_clients s.class.challenges) body) front
  where
    of : (a b c d : Bool) → d ≡ false → (if a then Some tooks.Foreign else if b then Some tooks.Strange else if not
        (c && d) then Some tooks.Strange else None) ≡ None → ⊥
    of true b c d is none = absurd cc
    of false true c d is none = absurd cc
    of false false true true is none = absurd cc
    of false false true false is none = absurd cc
    of false false false d is none = absurd cc

-- ---- the rules of a client

pub own-is : (l : Looks) (c d : CallName) (k : CallRecord) → same_name c d ≡ true → call_at l c ≡ Some k
    → (own_call l d ≡ Some k) ⊎ (own_call l d ≡ None)
own-is l c d k same there =
    let at : call_at l d ≡ Some k = subst (λ (n : CallName). call_at l n ≡ Some k) (name_is c d same) there in
    (elim ((channel_at l (channel_of d)).number == d.number) as
    (λ b. (cond b (call_at l d) None ≡ Some k) ⊎ (cond b (call_at l d) None ≡ None)) [
      | true ↦ inl at
      | false ↦ inr refl
    ])

client-writes : (s : Setup) (l : Looks) (k : CallRecord) (offered : ℕ) (got : Result ℕ NotOpen) (bytes : List ℕ)
    → got ≡ client_write s l (Some k) offered → HasBytes got bytes → WriteFacts (Unit {0}) k bytes
client-writes s l k offered got bytes is has = of (is_live k.life) k.looks.sent.shut refl is
  where
    of : (live shut : Bool) → k.looks.sent.shut ≡ shut → got
        ≡ (if live && not shut then Ok (min offered (room s l k.looks)) else Err (record {}))
        → WriteFacts (Unit {0}) k bytes
    of true false unshut is =
        let long : length bytes ≡ min offered (room s l k.looks) = subst
        (λ (r : Result ℕ NotOpen). HasBytes r bytes) is has in
        record {
          stops = λ safe shut. absurd (cc (shut, unshut));
          low = write-low s l k offered bytes (omega arith);
        }
    of true true shut is = nothing-written (Unit {0}) k bytes
        (subst (λ (r : Result ℕ NotOpen). HasBytes r bytes) is has)
    of false shut' shut is = nothing-written (Unit {0}) k bytes
        (subst (λ (r : Result ℕ NotOpen). HasBytes r bytes) is has)

write-facts : (s : Setup) (l : Looks) (k : CallRecord) (o : Option CallRecord) (offered : ℕ) (got : Result ℕ NotOpen)
    (bytes : List ℕ)
    → (o ≡ Some k) ⊎ (o ≡ None) → got ≡ client_write s l o offered → HasBytes got bytes → WriteFacts (Unit {0}) k bytes
write-facts s l k o offered got bytes (inl own) is has =
    client-writes s l k offered got bytes (is ∙ ap (λ (x : Option CallRecord). client_write s l x offered) own) has
write-facts s l k o offered got bytes (inr none) is has =
    nothing-written (Unit {0}) k bytes
    (subst (λ (r : Result ℕ NotOpen). HasBytes r bytes) (is ∙ ap
    (λ (x : Option CallRecord). client_write s l x offered) none) has)

pub reads-client : (k : CallRecord) (o : Option CallRecord) (max : ℕ) (got : ReadAns) (bytes : List ℕ)
    → (o ≡ Some k) ⊎ (o ≡ None)
    → (is_ok_end k.life ≡ true → k.looks.received.ended ≡ true)
    → ◌≡◌ {A = ReadAns × List ℕ} (got, bytes) (client_read o max) → ReadFacts k (is_end (readers.Client got)) bytes
reads-client k o max got bytes (inl own) fine is =
    subst (λ (p : ReadAns × List ℕ). ReadFacts k (is_end (readers.Client p.0)) p.1)
    (sym (is ∙ ap (λ (x : Option CallRecord). client_read x max) own)) (client-facts k k.life max fine)
reads-client k o max got bytes (inr none) fine is =
    subst (λ (p : ReadAns × List ℕ). ReadFacts k (is_end (readers.Client p.0)) p.1)
    (sym (is ∙ ap (λ (x : Option CallRecord). client_read x max) none)) (nothing-read k [] refl)

cancel-fine : (code : ℤ) (x : Life) → is_ok_end (after_cancel code x) ≡ true → is_ok_end x ≡ true
cancel-fine code lives.Calling is = absurd cc
cancel-fine code (lives.Ended end) is = is
cancel-fine code lives.Waiting is = is
cancel-fine code lives.Accepted is = is
cancel-fine code lives.Finished is = is
cancel-fine code (lives.Broken before) is = is
cancel-fine code (lives.Over before) is = is

cancel-ends : (Cause : End → Type 0) (code : ℤ) (x : Life) (end : End) → Cause (ends.Cancelled code)
    → end_of_life (after_cancel code x) ≡ Some end
    → (end_of_life x ≡ Some end) ⊎ Cause end
cancel-ends Cause code lives.Calling end cause is = inr (subst Cause (same_end (ends.Cancelled code) end is) cause)
cancel-ends Cause code (lives.Ended e) end cause is = inl is
cancel-ends Cause code lives.Waiting end cause is = inl is
cancel-ends Cause code lives.Accepted end cause is = inl is
cancel-ends Cause code lives.Finished end cause is = inl is
cancel-ends Cause code (lives.Broken before) end cause is = inl is
cancel-ends Cause code (lives.Over before) end cause is = inl is

pub at-most : (a b : ℕ) → nat_le a b ≡ true → a ≤ b
at-most a b h = grind (arith, nat_tests)

-- a channel's number fits
pub channel-fits : (s : Setup) (r : ConnLooks) (n : ℕ) → GoodConn s r → number_in r.channels n < 2 ^ 32
channel-fits s r n good = of r.channels n good.numbers
  where
    of : (qs : List ChannelLooks) (n : ℕ) → Every (λ q. q.number < 2 ^ 32) qs → number_in qs n < 2 ^ 32
    of [] n all = omega arith
    of (q ∷ qs) zero all = all.0
    of (q ∷ qs) (suc n) all = of qs n all.1

next-fits : (first number : ℕ) → first < 2 ^ 32 → number < 2 ^ 32 → (number == 2 ^ 32 - 1) ≡ false
    → next_number first number < 2 ^ 32
next-fits first number low below worn =
    (elim (number == 0) as (λ b. (if b then first else number + 1) < 2 ^ 32) [
      | true ↦ low
      | false ↦ (let apart : number < 4294967295 = grind (arith, nat_tests) in omega arith)
    ])

kind-fits : (kind : Kind) (host : Host) (epoch : ℕ) → kind ≡ Client host epoch → FitsKind kind → epoch < 2 ^ 32
kind-fits kind host epoch is fits = subst FitsKind is fits

kind-cid : (kind : Kind) (host : Host) (epoch : ℕ) (r : ConnLooks) → kind ≡ Client host epoch → OfKind kind r
    → OfKind (Client host epoch) r
kind-cid kind host epoch r is of = subst (λ (k : Kind). OfKind k r) is of

-- what stands of a call that a client starts
pub record Fresh (s : Setup) (l : Looks) (d : CallName) : Type 0 where
  pub conn : ConnLooks
  pub there : conn_at l (connection_of d) ≡ Some conn
  pub chan : d.chan < 4
  pub above : number_of (conn_at l (connection_of d)) d.chan < d.number
  pub good : GoodName s d

pub fresh-call : (s : Setup) (host : Host) (epoch cid : ℕ) (l : Looks) (d : CallName) → s.kind ≡ Client host epoch
    → FitsSetup s → Conns s l
    → Ok d ≡ call_answer s host epoch l cid → Fresh s l d
fresh-call s host epoch cid l d kind fits conns is =
    let x : Connection = record { host = host; epoch = epoch; cid = cid } in
    let n = new-call s host epoch cid l d is in
    let good = found-good s (λ q. same_connection q.connection x) l.conns n.conn conns n.there in
    let own = connection_is n.conn.connection x (find_passes
    (λ q. same_connection q.connection x) l.conns n.conn n.there) in
    let there : conn_at l (connection_of d) ≡ Some n.conn = ap (conn_at l) n.on ∙ n.there in
    let of = kind-cid s.kind host epoch n.conn kind good.kind in
    let cid_is : d.cid ≡ cid = ap (λ (y : Connection). y.cid) n.on in
    let epoch_is : d.epoch ≡ epoch = ap (λ (y : Connection). y.epoch) n.on in
    let own_cid : n.conn.connection.cid ≡ cid = ap (λ (y : Connection). y.cid) own in
    let whole = of.0 in
    let top = of.1 in
    let chan = n.chan in
    let number_is : (channel_at l (channel_of d)).number ≡ number_of
    (conn_at l (connection_of d)) d.chan = channel_number l (channel_of d) in
    let in_conn : number_of (conn_at l (connection_of d)) d.chan
    ≡ number_in n.conn.channels d.chan = ap (λ (o : Option ConnLooks). number_of o d.chan) there in
    let low = channel-fits s n.conn d.chan good in
    let above = next-above n.conn.first (channel_at l (channel_of d)).number good.first in
    let next = n.number in
    let next_low = next-fits n.conn.first (channel_at l (channel_of d)).number good.first_fits (omega arith) n.fresh in
    let life = kind-fits s.kind host epoch kind fits.kind in
    record {
      conn = n.conn;
      there = there;
      chan = n.chan;
      above = omega arith;
      good =
          record {
            epoch = omega arith;
            whole = omega arith;
            split = omega arith;
            number = omega arith;
            own = subst (λ (k : Kind). OwnName k d) (sym kind) (ap (λ (y : Connection). y.host) n.on, epoch_is);
          };
    }

module _ (c : CallName) (s : Setup) (host : Host) (epoch : ℕ) (kind : s.kind ≡ Client host epoch) (fits : FitsSetup s)
    (l : Looks) (standing : Standing s l) where
  abbrev pub ClientTurn : Event → Type 0
  ClientTurn e = Turn (Unit {0}) ⊥ (GoodName s c) (CauseBy s l e c) (Arrives s l e c) (call_at l c)
      (call_at (after s e l) c)

  by : (e : Event) (m : Looks) → m.calls ≡ l.calls
      → Turn (Unit {0}) ⊥ (GoodName s c) (CauseBy s l e c) (Arrives s l e c) (call_at l c) (call_at m c)
  by e m same = turn-by (Unit {0}) ⊥ (GoodName s c) (CauseBy s l e c) (Arrives s l e c) c l m same

  stop-why : (from : Host) (bytes : List ℕ) (m : Message) (body : Body) → m.body ≡ body → reading_of bytes ≡ Ok m
      → outer_row s s.kind l from m ≡ None
      → StopCause (CauseBy s l (events.Taken from bytes tooks.Stopped) c) c (named s from m) body
  stop-why from bytes m (bodies.Abort code) body reads front = λ why.
      record {
        message = m;
        reads = reads;
        front = front;
        body = body;
        name = (elim why as (λ t. (named s from m ≡ c) ⊎ ((m.number ≡ 0)
            × (connection_of (named s from m) ≡ connection_of c))) [
              | inl same ↦ inl (sym (name_is c (named s from m) same))
              | inr all ↦ inr (
                same_number m.number 0 all.0,
                sym
                    (connection_is (connection_of c) (connection_of (named s from m)) all.1),
              )
            ]);
      }
  stop-why from bytes m (bodies.Response answer) body reads front = λ same. absurd
      (no-response s s.kind host epoch l from m answer kind body front)
  stop-why from bytes m _ body reads front = tt

  taken-why : (from : Host) (bytes : List ℕ) (got : Took) (m : Message) → reading_of bytes ≡ Ok m
      → outer_row s s.kind l from m ≡ None
      → got ≡ took_reading s l from (Ok m)
      → TakenWhy (CauseBy s l (events.Taken from bytes got) c) (Arrives s l (events.Taken from bytes got) c) c
      (named s from m) m got
  taken-why from bytes tooks.Kept m reads front is =
      λ payload same body. record {
        message = m;
        payload = payload;
        reads = reads;
        front = front;
        named_is = sym (name_is c (named s from m) same);
        body = body;
        packet = refl;
      }
  taken-why from bytes tooks.Stopped m reads front is = stop-why from bytes m m.body refl reads front
  taken-why from bytes tooks.Busy m reads front is = absurd (never-busy s host epoch l from m kind front is)
  taken-why from bytes _ m reads front is = tt

  named-own : (from : Host) (m : Message) → outer_row s s.kind l from m ≡ None → OwnName s.kind (named s from m)
  named-own from m front = of s.kind kind refl front
    where
      some-there : (o : Option ConnLooks) → is_peer from o ≡ true → (r : ConnLooks) × (o ≡ Some r)
      some-there None is = absurd cc
      some-there (Some r) is = (r, refl)

      of : (k : Kind) → k ≡ Client host epoch → s.kind ≡ k → outer_row s k l from m ≡ None → OwnName k (named s from m)
      of (Server service nonces) is same front = absurd cc
      of (Client h e) is same front =
          let x : Connection = connection_of (named s from m) in
          let found = some-there (conn_at l x) (client-known s l from m front) in
          let good = found-good s (λ q. same_connection q.connection x) l.conns found.0 standing.conns found.1 in
          let own = connection_is found.0.connection x (find_passes
          (λ q. same_connection q.connection x) l.conns found.0 found.1) in
          let life = (subst (λ (q : Kind). OfKind q found.0) same good.kind).2 in
          (ap (λ (q : Kind). client_host q from) same, sym (ap (λ (y : Connection). y.epoch) own) ∙ life)

  message-turn : (from : Host) (bytes : List ℕ) (got : Took) (reading : Result Message BadMsg)
      → reading_of bytes ≡ reading → IsBytes bytes → got ≡ took_reading s l from reading → Sound l c 0
      → Spared (connection_of c) (taken_message s from reading got l)
      → Turn (Unit {0}) ⊥ (GoodName s c) (CauseBy s l (events.Taken from bytes got) c)
      (Arrives s l (events.Taken from bytes got) c) (call_at l c)
      (call_at (taken_message s from reading got l) c)
  message-turn from bytes got (Err bad) reads is_bytes is sound spared = by (events.Taken from bytes got) l refl
  message-turn from bytes got (Ok m) reads is_bytes is sound spared = behind (outer_row s s.kind l from m) refl spared
    where
      d : CallName
      d = named s from m

      behind : (row : Option Took) → outer_row s s.kind l from m ≡ row
          → Spared (connection_of c) (taken_behind s row from d m got l)
          → Turn (Unit {0}) ⊥ (GoodName s c) (CauseBy s l (events.Taken from bytes got) c)
          (Arrives s l (events.Taken from bytes got) c) (call_at l c)
          (call_at (taken_behind s row from d m got l) c)
      behind row front spared =
          behind-turn (Unit {0}) ⊥ (GoodName s c) (CauseBy s l (events.Taken from bytes got) c)
          (Arrives s l (events.Taken from bytes got) c) c
          s row from d m got l
          (λ none. (
            opens-by (Unit {0}) c (prepared s got (connection_of d) l) d got
                (λ same safe above. opens (Unit {0}) c s l (prepared s got (connection_of d) l) d same
                (sound-ready s got c (connection_of d) l
                (spared-ready (connection_of c) s from d m got l
                (subst (λ (r : Option Took). Spared (connection_of c)
                (taken_behind s r from d m got l)) none spared)) sound) above),
            (λ same. subst (λ (n : CallName). GoodName s n) (sym (name_is c d same))
                (read-fits-own s from bytes m (named-own from m (front ∙ none)) is_bytes reads)),
            taken-why from bytes got m reads (front ∙ none) is,
          ))

  no-record : (d : CallName) → same_name c d ≡ true → Sound l c 0
      → number_of (conn_at l (connection_of d)) d.chan < d.number → call_at l d ≡ None
  no-record d same sound above =
      let own : Sound l d 0 = subst (λ (n : CallName). Sound l n 0) (name_is c d same) sound in
      of (call_at l d) own.below above
    where
      of : (o : Option CallRecord) → Below o d.number (number_of (conn_at l (connection_of d)) d.chan)
          → number_of (conn_at l (connection_of d)) d.chan < d.number → o ≡ None
      of None below top = refl
      of (Some k) below top = absurd (omega arith)

  calls-linked : (k : Kind) (to : Host) (service first cid : ℕ) → (linked k to service first cid l).calls ≡ l.calls
  calls-linked (Client h e) to service first cid = refl
  calls-linked (Server service nonces) to service' first cid = refl

  pub client-turn : (e : Event) → AllowedClient s host epoch l e → Sound l c 0 → Fine (call_at l c)
      → Spared (connection_of c) (after s e l) → ClientTurn e
  client-turn (events.Linked to service first (Ok cid)) allowed sound fine spared =
      by (events.Linked to service first (Ok cid)) (linked s.kind to service first cid l)
      (calls-linked s.kind to service first cid)
  client-turn (events.Linked to service first (Err full)) allowed sound fine spared = by
      (events.Linked to service first (Err full)) l refl
  client-turn (events.Called cid (Ok d)) allowed sound fine spared =
      let e : Event = events.Called cid (Ok d) in
      let f = fresh-call s host epoch cid l d kind fits standing.conns allowed in
      still-turn (Unit {0}) ⊥ (GoodName s c) (CauseBy s l e c) (Arrives s l e c) (call_at l c)
      (call_at (started s lives.Calling d l) c)
      (start-still (Unit {0}) ⊥ (GoodName s c) (CauseBy s l e c) (Arrives s l e c) c s lives.Calling d l refl refl refl
      (λ same. (
        (λ safe. no-record d same sound f.above),
        subst (λ (n : CallName). GoodName s n)
            (sym (name_is c d same)) f.good,
      )))
  client-turn (events.Called cid (Err refused)) allowed sound fine spared = by (events.Called cid (Err refused)) l refl
  client-turn (events.Wrote d offered (writers.Client got) bytes) allowed sound fine spared =
      let e : Event = events.Wrote d offered (writers.Client got) bytes in
      wrote-turn (Unit {0}) ⊥ (GoodName s c) (CauseBy s l e c) (Arrives s l e c) c d bytes l
      (λ k same is. (let f = write-facts s l k (own_call l d) offered got bytes
      (own-is l c d k same is) allowed.0 allowed.2 in (f.stops, f.low)))
  client-turn (events.Wrote d offered (writers.Server got) bytes) allowed sound fine spared = absurd allowed
  client-turn (events.Shut d (Ok done)) allowed sound fine spared =
      let e : Event = events.Shut d (Ok done) in
      shut-turn (Unit {0}) ⊥ (GoodName s c) (CauseBy s l e c) (Arrives s l e c) c d l (λ same none. none)
  client-turn (events.Shut d (Err closed)) allowed sound fine spared = by (events.Shut d (Err closed)) l refl
  client-turn (events.HasRead d max (readers.Client got) bytes) allowed sound fine spared =
      let e : Event = events.HasRead d max (readers.Client got) bytes in
      read-turn (Unit {0}) ⊥ (GoodName s c) (CauseBy s l e c) (Arrives s l e c) c d
      (is_end (readers.Client got)) bytes l tt
      (λ k same is safe. reads-client k (own_call l d) max got bytes (own-is l c d k same is)
      (subst Fine is fine) allowed.1)
  client-turn (events.HasRead d max (readers.Server got) bytes) allowed sound fine spared = absurd allowed
  client-turn (events.Ended d got) allowed sound fine spared = by (events.Ended d got) l refl
  client-turn (events.Cancelled d code (Ok done)) allowed sound fine spared =
      let e : Event = events.Cancelled d code (Ok done) in
      still-turn (Unit {0}) ⊥ (GoodName s c) (CauseBy s l e c) (Arrives s l e c) (call_at l c)
      (call_at (cancelled d code l) c)
      (life-changed (Unit {0}) ⊥ (GoodName s c) (CauseBy s l e c) (Arrives s l e c) c d (after_cancel code) l
      (cancel-fine code)
      (λ x end same is. cancel-ends (CauseBy s l e c) code x end (sym (name_is c d same), refl) is) (λ same none. none))
  client-turn (events.Cancelled d code (Err closed)) allowed sound fine spared = by
      (events.Cancelled d code (Err closed)) l refl
  client-turn (events.Taken from bytes got) allowed sound fine spared =
      message-turn from bytes got (reading_of bytes) refl allowed.0 allowed.1 sound spared
  client-turn (events.Polled got) allowed sound fine spared =
      polled-turn (Unit {0}) c s l ⊥ (CauseBy s l (events.Polled got) c)
      (Arrives s l (events.Polled got) c) got fits standing allowed
      (λ k there silent. record {
        call = k;
        there = there;
        long = at-most SILENCE_MS (silence_of l.now k)
            (both _ _ silent).1;
        is = refl;
      })
  client-turn (events.Clocked now) allowed sound fine spared = by (events.Clocked now) (record l { now = now }) refl
  client-turn (events.Accepted got) allowed sound fine spared = absurd allowed
  client-turn (events.Finished d code got) allowed sound fine spared = absurd allowed
