-- What events make of a node with one connection and one call on it.
use Rattle.std.proofs.Common.{◌≡◌, ◌<◌, ◌+◌, ℕ, pos, suc, ◌-◌, ◌&&◌, Bool, true, false, cond, is_some}
use Rattle.std.proofs.Common.{List, [], ◌∷◌, refl, Option, Some, None, Ok, add-zero}
use Rattle.std.proofs.Common.{nat_le, nat_lt, ◌==◌, arith}
use Rattle.std.proofs.lemmas.Bool.{lt-ltb, le-ltb, ne_eqb}
use Rattle.rx_model.specs.declared.answers.ReadGot.TheVariants as readers
use Rattle.rx_model.specs.declared.answers.ReadAns.{ReadAns}
use Rattle.rx_model.specs.declared.answers.ReadAns.TheVariants as answers
use Rattle.rx_model.specs.declared.answers.ServeRead.{ServeRead}
use Rattle.rx_model.specs.declared.answers.ServeRead.TheVariants as reads
use Rattle.rx_model.specs.declared.answers.WroteGot.{WroteGot}
use Rattle.rx_model.specs.declared.answers.Took.TheVariants as tooks
use Rattle.rx_model.specs.declared.answers.End.TheVariants as ends
use Rattle.rx_model.specs.declared.event.Event.TheVariants as events
use Rattle.rx_model.specs.declared.names.CallName.{CallName}
use Rattle.rx_model.specs.declared.wire.TheConstants.{SILENCE_MS, CLIENT_INITIATED, DEFAULT_WINDOW}
use Rattle.rx_model.specs.Body as bodies
use Rattle.rx_model.specs.Body.{AckBody}
use Rattle.rx_model.specs.Message.{Message, has_flag}
use Rattle.rx_model.specs.Spelling.{made, IsPlain}
use Rattle.rx_model.proofs.MessageLaws.{reads_back}
use Rattle.rx_model.proofs.NameLaws.{number_itself}
use Rattle.rx_rules.specs.After.{after, is_end}
use Rattle.rx_rules.specs.CallItems.{Sending, Piece, Ack, after_sending}
use Rattle.rx_rules.specs.CallLooks.{CallLooks, fresh_call, after_taken, after_write, after_shut, after_read}
use Rattle.rx_rules.specs.Judging.{took_of}
use Rattle.rx_rules.specs.Life.{Life, is_active, is_live, is_waiting, after_silence}
use Rattle.rx_rules.specs.Life as lives
use Rattle.rx_rules.specs.Looks.{Looks, at_start, call_at}
use Rattle.rx_rules.specs.Rules.{accept_answer, own_call}
use Rattle.rx_rules.specs.Setup.{Setup}
use Rattle.rx_plan.specs.Follows.{class_of}
use Rattle.rx_rounds.proofs.Keys.KeyClass.{challenges_is, enters_proved}
use Rattle.rx_rounds.proofs.Pair.{message_of, view_of, row_of}
use Rattle.rx_rounds.proofs.One.OneCall.{Ends, Link, client_setup, server_setup, the_call, the_record, node_of}
use Rattle.rx_rounds.proofs.One.OneCall.{answering_link, from_client, from_server, header_of, client_place, served_link}
use Rattle.rx_rounds.proofs.One.OneCall.{server_place}

-- ---- behind a poll

pub client_none : (x : Ends) (now used given : ℕ) (k : CallLooks) → nat_le SILENCE_MS (now - k.heard) ≡ false
    → after (client_setup x) (events.Polled None) (node_of x (from_client x given used) [] now lives.Calling k)
    ≡ node_of x (from_client x given used) [] now lives.Calling k
client_none x now used given k awake = rw awake refl

pub client_gave : (x : Ends) (now used given : ℕ) (k : CallLooks) (i : Sending)
    → nat_le SILENCE_MS (now - k.heard) ≡ false
    → IsPlain (message_of (client_place x now) (record { looks = k; given = given }) i)
    → after (client_setup x) (events.Polled
    (Some (x.server, made (message_of (client_place x now) (record { looks = k; given = given }) i))))
    (node_of x (from_client x given used) [] now lives.Calling k)
    ≡ node_of x (from_client x (suc given) now) [] now lives.Calling (after_sending now i k)
client_gave x now used given k (Piece seq again) awake plain =
    rw (reads_back (message_of (client_place x now) (record { looks = k; given = given }) (Piece seq again)) plain)
    (rw awake
    (rw (number_itself x.client.addr, number_itself x.client.port, number_itself x.epoch, number_itself x.first) refl))
client_gave x now used given k (Ack reason serial) awake plain =
    rw (reads_back (message_of (client_place x now) (record { looks = k; given = given }) (Ack reason serial)) plain)
    (rw awake
    (rw (number_itself x.client.addr, number_itself x.client.port, number_itself x.epoch, number_itself x.first) refl))

pub link_none : (x : Ends) (proved : Bool) (firsts : List CallName) (now used given : ℕ) (life : Life) (k : CallLooks)
    → nat_le SILENCE_MS (now - k.heard) ≡ false
    → after (server_setup x) (events.Polled None) (node_of x (served_link x proved false given used) firsts now life k)
    ≡ node_of x (served_link x proved false given used) firsts now life k
link_none x proved firsts now used given life k awake =
    (elim (is_active life) as (λ b. ◌≡◌ {A = Looks}
    (record (node_of x (served_link x proved false given used) firsts now life k) {
      calls = cond (b && nat_le SILENCE_MS (now - k.heard))
          (record (the_record x life k) { life = after_silence (now - k.heard) life }) (the_record x life k) ∷ [];
    })
    (node_of x (served_link x proved false given used) firsts now life k)) [
      | true ↦ rw awake refl
      | false ↦ refl
    ])

pub link_gave : (x : Ends) (proved : Bool) (firsts : List CallName) (now used given : ℕ) (life : Life) (k : CallLooks)
    (i : Sending)
    → is_active life ≡ true → nat_le SILENCE_MS (now - k.heard) ≡ false
    → IsPlain (message_of (server_place x now) (record { looks = k; given = given }) i)
    → after (server_setup x) (events.Polled
    (Some (x.client, made (message_of (server_place x now) (record { looks = k; given = given }) i))))
    (node_of x (served_link x proved false given used) firsts now life k)
    ≡ node_of x (served_link x proved false (suc given) now) firsts now life (after_sending now i k)
link_gave x proved firsts now used given life k (Piece seq again) active awake plain =
    rw (reads_back (message_of (server_place x now) (record { looks = k; given = given }) (Piece seq again)) plain)
    (rw (active, awake)
    (rw (number_itself x.client.addr, number_itself x.client.port, number_itself x.epoch, number_itself x.first) refl))
link_gave x proved firsts now used given life k (Ack reason serial) active awake plain =
    rw (reads_back (message_of (server_place x now) (record { looks = k; given = given }) (Ack reason serial)) plain)
    (rw (active, awake)
    (rw (number_itself x.client.addr, number_itself x.client.port, number_itself x.epoch, number_itself x.first) refl))

pub server_none : (x : Ends) (firsts : List CallName) (now used given : ℕ) (life : Life) (k : CallLooks)
    → nat_le SILENCE_MS (now - k.heard) ≡ false
    → after (server_setup x) (events.Polled None) (node_of x (from_server x given used) firsts now life k)
    ≡ node_of x (from_server x given used) firsts now life k
server_none x = link_none x (is_some x.key)

pub server_gave : (x : Ends) (firsts : List CallName) (now used given : ℕ) (life : Life) (k : CallLooks) (i : Sending)
    → is_active life ≡ true → nat_le SILENCE_MS (now - k.heard) ≡ false
    → IsPlain (message_of (server_place x now) (record { looks = k; given = given }) i)
    → after (server_setup x) (events.Polled
    (Some (x.client, made (message_of (server_place x now) (record { looks = k; given = given }) i))))
    (node_of x (from_server x given used) firsts now life k)
    ≡ node_of x (from_server x (suc given) now) firsts now life (after_sending now i k)
server_gave x = link_gave x (is_some x.key)

-- ---- a server that knows nothing takes the first piece

-- a piece
abbrev pub data_of : Ends → ℕ → ℕ → ℕ → List ℕ → Message
data_of x seq serial flags payload =
    record (header_of x) { seq = seq; serial = serial; flags = flags; body = bodies.Chunk payload }

abbrev pub empty_at : ℕ → Looks
empty_at now = record at_start { now = now }

pub server_begins : (x : Ends) (now serial flags : ℕ) (payload : List ℕ) → 1 < x.first + 1
    → IsPlain (data_of x 1 serial flags payload) → has_flag CLIENT_INITIATED flags ≡ true
    → took_of (server_setup x) (empty_at now) x.client (made (data_of x 1 serial flags payload))
    ≡ row_of (server_place x now) (data_of x 1 serial flags payload)
    (fresh_call (record { window = DEFAULT_WINDOW; prompt = false }) now)
server_begins x now serial flags payload some plain ours =
    let above : nat_lt 0 x.first ≡ true = lt-ltb 0 x.first (omega arith) in
    let numbered : (x.first == 0) ≡ false = ne_eqb x.first 0 (λ (e : x.first ≡ 0). omega arith) in
    let not_below : nat_lt x.first 0 ≡ false = le-ltb x.first 0 (omega arith) in
    rw (reads_back (data_of x 1 serial flags payload) plain)
    (simp (
      ours,
      above,
      numbered,
      not_below,
      number_itself x.service,
      number_itself x.client.addr,
      number_itself
          x.client.port,
      number_itself x.epoch,
      number_itself x.first,
      number_itself (class_of x.key).index,
      add-zero,
    ) refl)

-- where there is a key, it owes a CHALLENGE
pub server_began : (x : Ends) (now serial flags : ℕ) (payload : List ℕ) → 1 < x.first + 1
    → IsPlain (data_of x 1 serial flags payload) → has_flag CLIENT_INITIATED flags ≡ true
    → after (server_setup x) (events.Taken x.client (made (data_of x 1 serial flags payload)) tooks.Kept) (empty_at now)
    ≡ node_of x (served_link x false (is_some x.key) 0 now) (the_call x ∷ []) now lives.Waiting
    (after_taken (view_of (server_place x now) (fresh_call (record { window = DEFAULT_WINDOW; prompt = false }) now))
    tooks.Kept
    (data_of x 1 serial flags payload) (fresh_call (record { window = DEFAULT_WINDOW; prompt = false }) now))
server_began x now serial flags payload some plain ours = of (is_some x.key) (challenges_is x.key)
  where
    above : nat_lt 0 x.first ≡ true
    above = lt-ltb 0 x.first (omega arith)

    of : (b : Bool) → (class_of x.key).challenges ≡ b
        → after (server_setup x) (events.Taken x.client (made (data_of x 1 serial flags payload)) tooks.Kept)
        (empty_at now)
        ≡ node_of x (served_link x false b 0 now) (the_call x ∷ []) now lives.Waiting
        (after_taken (view_of (server_place x now)
        (fresh_call (record { window = DEFAULT_WINDOW; prompt = false }) now)) tooks.Kept
        (data_of x 1 serial flags payload) (fresh_call (record { window = DEFAULT_WINDOW; prompt = false }) now))
    of true is =
        rw (reads_back (data_of x 1 serial flags payload) plain)
        (simp (
          is,
          ours,
          above,
          number_itself x.service,
          number_itself (class_of x.key).index,
          number_itself x.client.addr,
          number_itself x.client.port,
          number_itself x.epoch,
          number_itself x.first,
          add-zero,
        ) refl)
    of false is =
        rw (reads_back (data_of x 1 serial flags payload) plain)
        (simp (
          is,
          ours,
          above,
          number_itself x.service,
          number_itself (class_of x.key).index,
          number_itself x.client.addr,
          number_itself x.client.port,
          number_itself x.epoch,
          number_itself x.first,
          add-zero,
        ) refl)

-- ---- a client takes what the server gave

-- an ACK of the server
abbrev pub ack_of : Ends → ℕ → AckBody → Message
ack_of x serial a = record (header_of x) { serial = serial; body = bodies.Ack a }

pub answering_took_ack : (x : Ends) (o : Option (List ℕ)) (firsts : List CallName) (now used given : ℕ) (k : CallLooks)
    (serial : ℕ)
    (a : AckBody) → 1 < x.first + 1
    → IsPlain (ack_of x serial a)
    → took_of (client_setup x) (node_of x (answering_link x o given used) firsts now lives.Calling k) x.server
    (made (ack_of x serial a))
    ≡ row_of (client_place x now) (ack_of x serial a) k
answering_took_ack x o firsts now used given k serial a some plain =
    let numbered : (x.first == 0) ≡ false = ne_eqb x.first 0 (λ (e : x.first ≡ 0). omega arith) in
    let below : nat_lt x.first x.first ≡ false = le-ltb x.first x.first (omega arith) in
    rw (reads_back (ack_of x serial a) plain)
    (simp (
      numbered,
      below,
      number_itself x.client.addr,
      number_itself x.client.port,
      number_itself x.server.addr,
      number_itself x.server.port,
      number_itself x.epoch,
      number_itself x.first,
      number_itself (class_of x.key).index,
      add-zero,
    ) refl)

pub answering_heard_ack : (x : Ends) (o : Option (List ℕ)) (firsts : List CallName) (now used given : ℕ) (k : CallLooks)
    (serial : ℕ)
    (a : AckBody)
    → IsPlain (ack_of x serial a)
    → after (client_setup x) (events.Taken x.server (made (ack_of x serial a)) tooks.Heard)
    (node_of x (answering_link x o given used) firsts now lives.Calling k)
    ≡ node_of x (answering_link x o given now) firsts now lives.Calling
    (after_taken (view_of (client_place x now) k) tooks.Heard (ack_of x serial a) k)
answering_heard_ack x o firsts now used given k serial a plain =
    rw (reads_back (ack_of x serial a) plain)
    (simp (
      number_itself x.client.addr,
      number_itself x.client.port,
      number_itself x.server.addr,
      number_itself
          x.server.port,
      number_itself (class_of x.key).index,
      number_itself x.epoch,
      number_itself x.first,
    ) refl)

pub client_took_ack : (x : Ends) (firsts : List CallName) (now used given : ℕ) (k : CallLooks) (serial : ℕ)
    (a : AckBody) → 1 < x.first + 1
    → IsPlain (ack_of x serial a)
    → took_of (client_setup x) (node_of x (from_client x given used) firsts now lives.Calling k) x.server
    (made (ack_of x serial a))
    ≡ row_of (client_place x now) (ack_of x serial a) k
client_took_ack x = answering_took_ack x None

pub client_heard_ack : (x : Ends) (firsts : List CallName) (now used given : ℕ) (k : CallLooks) (serial : ℕ)
    (a : AckBody)
    → IsPlain (ack_of x serial a)
    → after (client_setup x) (events.Taken x.server (made (ack_of x serial a)) tooks.Heard)
    (node_of x (from_client x given used) firsts now lives.Calling k)
    ≡ node_of x (from_client x given now) firsts now lives.Calling
    (after_taken (view_of (client_place x now) k) tooks.Heard (ack_of x serial a) k)
client_heard_ack x = answering_heard_ack x None

-- ---- the server's handler

pub server_accepts : (x : Ends) (now used given : ℕ) (k : CallLooks)
    → accept_answer (server_setup x) (node_of x (from_server x given used) (the_call x ∷ []) now lives.Waiting k)
    ≡ Some (the_call x)
server_accepts x now used given k =
    simp (
      enters_proved x.key,
      number_itself x.client.addr,
      number_itself x.client.port,
      number_itself x.epoch,
      number_itself x.first,
    ) refl

pub server_accepted : (x : Ends) (now used given : ℕ) (k : CallLooks)
    → after (server_setup x) (events.Accepted (Some (the_call x)))
    (node_of x (from_server x given used) (the_call x ∷ []) now lives.Waiting k)
    ≡ node_of x (from_server x given used) (the_call x ∷ []) now lives.Accepted k
server_accepted x now used given k =
    simp (number_itself x.client.addr, number_itself x.client.port, number_itself x.epoch, number_itself x.first) refl

-- nothing waits
pub server_accepts_none : (x : Ends) (now used given : ℕ) (life : Life) (k : CallLooks) → is_waiting life ≡ false
    → accept_answer (server_setup x) (node_of x (from_server x given used) (the_call x ∷ []) now life k) ≡ None
server_accepts_none x now used given life k none =
    simp (
      none,
      number_itself x.client.addr,
      number_itself x.client.port,
      number_itself x.epoch,
      number_itself
          x.first,
    ) refl

-- the call of its name
pub call_is : (x : Ends) (y : Link) (firsts : List CallName) (now : ℕ) (life : Life) (k : CallLooks)
    → call_at (node_of x y firsts now life k) (the_call x) ≡ Some (the_record x life k)
call_is x y firsts now life k =
    simp (number_itself x.client.addr, number_itself x.client.port, number_itself x.epoch, number_itself x.first) refl

pub own_is : (x : Ends) (o : Option (List ℕ)) (given used : ℕ) (firsts : List CallName) (now : ℕ) (life : Life)
    (k : CallLooks)
    → own_call (node_of x (answering_link x o given used) firsts now life k) (the_call x) ≡ Some (the_record x life k)
own_is x o given used firsts now life k =
    simp (number_itself x.client.addr, number_itself x.client.port, number_itself x.epoch, number_itself x.first) refl

pub server_read : (x : Ends) (firsts : List CallName) (now used given max : ℕ) (k : CallLooks) (got : ServeRead)
    (bytes : List ℕ)
    → after (server_setup x) (events.HasRead (the_call x) max (readers.Server got) bytes)
    (node_of x (from_server x given used) firsts now lives.Accepted k)
    ≡ node_of x (from_server x given used) firsts now lives.Accepted
    (after_read now (is_end (readers.Server got)) bytes k)
server_read x firsts now used given max k (reads.Got n) bytes =
    simp (number_itself x.client.addr, number_itself x.client.port, number_itself x.epoch, number_itself x.first) refl
server_read x firsts now used given max k reads.End bytes =
    simp (number_itself x.client.addr, number_itself x.client.port, number_itself x.epoch, number_itself x.first) refl
server_read x firsts now used given max k reads.NotYet bytes =
    simp (number_itself x.client.addr, number_itself x.client.port, number_itself x.epoch, number_itself x.first) refl
server_read x firsts now used given max k (reads.Gone c) bytes =
    simp (number_itself x.client.addr, number_itself x.client.port, number_itself x.epoch, number_itself x.first) refl
server_read x firsts now used given max k reads.NotOpen bytes =
    simp (number_itself x.client.addr, number_itself x.client.port, number_itself x.epoch, number_itself x.first) refl

pub wrote : (s : Setup) (x : Ends) (y : Link) (firsts : List CallName) (now offered : ℕ) (life : Life) (k : CallLooks)
    (got : WroteGot) (bytes : List ℕ)
    → after s (events.Wrote (the_call x) offered got bytes) (node_of x y firsts now life k)
    ≡ node_of x y firsts now life (after_write bytes k)
wrote s x y firsts now offered life k got bytes =
    simp (number_itself x.client.addr, number_itself x.client.port, number_itself x.epoch, number_itself x.first) refl

pub server_finished : (x : Ends) (y : Link) (firsts : List CallName) (now : ℕ) (k : CallLooks)
    → after (server_setup x) (events.Finished (the_call x) (pos 0) (Ok tt)) (node_of x y firsts now lives.Accepted k)
    ≡ node_of x y firsts now lives.Finished (after_shut k)
server_finished x y firsts now k =
    simp (number_itself x.client.addr, number_itself x.client.port, number_itself x.epoch, number_itself x.first) refl

-- ---- the caller

pub client_shut : (x : Ends) (y : Link) (firsts : List CallName) (now : ℕ) (k : CallLooks)
    → after (client_setup x) (events.Shut (the_call x) (Ok tt)) (node_of x y firsts now lives.Calling k)
    ≡ node_of x y firsts now lives.Calling (after_shut k)
client_shut x y firsts now k =
    simp (number_itself x.client.addr, number_itself x.client.port, number_itself x.epoch, number_itself x.first) refl

-- a read that doesn't answer End
pub client_read_on : (x : Ends) (y : Link) (firsts : List CallName) (now max : ℕ) (k : CallLooks) (got : ReadAns)
    (bytes : List ℕ)
    → is_end (readers.Client got) ≡ false
    → after (client_setup x) (events.HasRead (the_call x) max (readers.Client got) bytes)
    (node_of x y firsts now lives.Calling k)
    ≡ node_of x y firsts now lives.Calling (after_read now false bytes k)
client_read_on x y firsts now max k got bytes going =
    simp (
      going,
      number_itself x.client.addr,
      number_itself x.client.port,
      number_itself x.epoch,
      number_itself
          x.first,
    ) refl
