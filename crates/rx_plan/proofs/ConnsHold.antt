-- What holds of each connection of a node holds behind each event, where it holds through what the event may tell.
use Rattle.std.proofs.Common.{Bool, Err, List, None, Ok, Option, Result, Some, [], cond, drop, false, if◌then◌else◌}
use Rattle.std.proofs.Common.{is_some, nat_lt, not, refl, suc, true, ℕ, ℤ, ◌&&◌, ◌==◌, ◌∷◌, ◌≡◌}
use Rattle.rx_model.specs.declared.answers.BadMsg.{BadMsg}
use Rattle.rx_model.specs.declared.answers.ServeRefused.TheVariants as refusals
use Rattle.rx_model.specs.declared.answers.Took.{Took}
use Rattle.rx_model.specs.declared.answers.Took.TheVariants as tooks
use Rattle.rx_model.specs.declared.event.Event.{Event}
use Rattle.rx_model.specs.declared.event.Event.TheVariants as events
use Rattle.rx_model.specs.declared.names.CallName.{CallName}
use Rattle.rx_model.specs.declared.names.Host.{Host}
use Rattle.rx_model.specs.declared.wire.TheConstants.{RX_CALL_DEAD, RX_PROTOCOL_ERROR}
use Rattle.rx_model.specs.Body.{Body}
use Rattle.rx_model.specs.Body as bodies
use Rattle.rx_model.specs.Message.{Message}
use Rattle.rx_model.specs.Names.{Channel, Connection, channel_of, connection_of, same_connection}
use Rattle.rx_model.specs.Reading.{reading_of}
use Rattle.rx_model.specs.Strays.{is_stray}
use Rattle.rx_rules.specs.After.{after, challenged, counted, enters, finished, given_body, given_by, given_message}
use Rattle.rx_rules.specs.After.{is_end, is_zero, linked, owing_abort, owing_ackall, owing_again, owing_busy, prepared}
use Rattle.rx_rules.specs.After.{settled, stopped_all, taken_at, taken_behind, taken_data, taken_heard, taken_message}
use Rattle.rx_rules.specs.After.{taken_over, taken_stopped, taken_unserved, taken_with, turned_away, with_first}
use Rattle.rx_rules.specs.CallLooks.{after_shut}
use Rattle.rx_rules.specs.Judging.{opened, outer_row}
use Rattle.rx_rules.specs.Life.{after_code, is_calling}
use Rattle.rx_rules.specs.Looks.{CallRecord, ChannelLooks, ConnLooks, Looks, call_at, changed_at, channel_at, conn_at}
use Rattle.rx_rules.specs.Looks.{fresh_channel, is_call, is_proved, latest_name, on_call, on_channel, on_conn, on_life}
use Rattle.rx_rules.specs.Looks.{on_looks}
use Rattle.rx_rules.specs.Records.{entered, fresh_conn, idle_conn, is_full, placed, silenced, started_later}
use Rattle.rx_rules.specs.Records.{with_conn}
use Rattle.rx_rules.specs.Setup.{Client, IsServer, Kind, Server, Setup, is_client, named}
use Rattle.rx_rules.proofs.ConnsLaws.{conn_if}
use Rattle.rx_rules.proofs.EveryLaws.{Every, every-append}
use Rattle.rx_history.proofs.Differ.{every_map}

-- a change of a channel that owes no code and no RESPONSE anew, and starts no call
pub record Clears (f : ChannelLooks → ChannelLooks) : Type 0 where
  pub number : (q : ChannelLooks) → (f q).number ≡ q.number
  pub abort : (q : ChannelLooks) (code : ℤ) → (f q).owed_abort ≡ Some code → q.owed_abort ≡ Some code
  pub response :
      (q : ChannelLooks) (bytes : List ℕ) → (f q).owed_response ≡ Some bytes → q.owed_response ≡ Some bytes

-- what holds of a record holds where it is used, given on or proved, and where a channel changes so; and it holds of a
-- record that a server enters
pub record Lasts (s : Setup) (P : ConnLooks → Type 0) : Type 0 where
  pub used : (r : ConnLooks) (now : ℕ) → P r → P (record r { last_use = now })
  pub given : (r : ConnLooks) (given now : ℕ) → P r → P (record r { given = given; last_use = now })
  pub proved : (r : ConnLooks) → P r → P (record r { proved = true })
  pub cleared :
      (r : ConnLooks) (n : ℕ) (f : ChannelLooks → ChannelLooks) → Clears f → P r
      → P (record r { channels = changed_at n f r.channels })
  pub entered : (x : Connection) (service : ℕ) (l : Looks) → IsServer s.kind → P (fresh_conn x x.host service 1 l)

clears_ackall : (owes : Bool) → Clears (owing_ackall owes)
clears_ackall true = record { number = λ q. refl; abort = λ q code is. is; response = λ q bytes is. is }
clears_ackall false = record { number = λ q. refl; abort = λ q code is. is; response = λ q bytes is. is }

module _ (s : Setup) (P : ConnLooks → Type 0) where
  -- of each connection of a node
  abbrev pub Hold : Looks → Type 0
  Hold l = Every P l.conns

  -- it holds through a change of this channel
  abbrev pub Bears : Channel → (ChannelLooks → ChannelLooks) → Looks → Type 0
  Bears ch f l = Hold l → Hold (on_channel ch f l)

  -- through the start of a call whose number is above its channel's
  abbrev pub MayStart : CallName → Looks → Type 0
  MayStart d l =
      nat_lt (channel_at l (channel_of d)).number d.number ≡ true
      → Bears (channel_of d) (λ q. fresh_channel d.number) l

  -- through what a message may tell, by its answer
  abbrev pub MayTake : Took → CallName → Body → Looks → Type 0
  MayTake tooks.Kept d body l = MayStart d l
  MayTake tooks.NoSlot d body l = MayStart d l
  MayTake tooks.Heard d (bodies.Challenge bytes) l =
      Bears (channel_of d) (λ q. record q { owed_response = s.class.respond d bytes }) l
  MayTake tooks.Stopped d (bodies.Response bytes) l = Bears (channel_of d) (owing_abort (Some RX_PROTOCOL_ERROR)) l
  MayTake tooks.Over d body l =
      (k : CallRecord) → call_at l d ≡ Some k → Bears (channel_of d) (owing_again body k.life) l
  MayTake _ d body l = Unit {0}

  -- the same of a datagram
  abbrev pub MayTakeFrom : Looks → Host → Result Message BadMsg → Took → Type 0
  MayTakeFrom l from (Err bad) got = Unit {0}
  MayTakeFrom l from (Ok m) got =
      outer_row s s.kind l from m ≡ None
      → MayTake got (named s from m) m.body (prepared s got (connection_of (named s from m)) l)

  -- through the code of a finish that isn't 0
  abbrev pub MayFinish : CallName → ℤ → Looks → Type 0
  MayFinish d code l = is_zero code ≡ false → Bears (channel_of d) (owing_abort (Some code)) l

  -- of a record that a client makes
  abbrev pub MayLink : Kind → Host → ℕ → ℕ → ℕ → Looks → Type 0
  MayLink (Client host epoch) to service first cid l =
      P (fresh_conn (record { host = host; epoch = epoch; cid = cid }) to service first l)
  MayLink (Server service nonces) to other first cid l = Unit {0}

  -- through what an event may tell
  abbrev pub MayTell : Looks → Event → Type 0
  MayTell l (events.Linked to service first (Ok cid)) = MayLink s.kind to service first cid l
  MayTell l (events.Called cid (Ok d)) = Bears (channel_of d) (λ q. fresh_channel d.number) l
  MayTell l (events.Finished d code (Ok done)) = MayFinish d code l
  MayTell l (events.Cancelled d code (Ok done)) = Bears (channel_of d) (owing_abort (Some code)) l
  MayTell l (events.Taken from bytes got) = MayTakeFrom l from (reading_of bytes) got
  MayTell l _ = Unit {0}

  if_conn : (b : Bool) (f : ConnLooks → ConnLooks) (r : ConnLooks) → (P r → P (f r)) → P r → P (cond b (f r) r)
  if_conn true f r keeps here = keeps here
  if_conn false f r keeps here = here

  hold_conn : (x : Connection) (f : ConnLooks → ConnLooks) (l : Looks) → ((r : ConnLooks) → P r → P (f r)) → Hold l
      → Hold (on_conn x f l)
  hold_conn x f l keeps all =
      every_map P P (conn_if x f) l.conns (λ r here. if_conn (same_connection r.connection x) f r (keeps r) here) all

  -- it holds through every change of channels where it says nothing of them
  pub bears_any : (ch : Channel) (f : ChannelLooks → ChannelLooks) (l : Looks)
      → ((r : ConnLooks) → P r → P (record r { channels = changed_at ch.chan f r.channels })) → Bears ch f l
  bears_any ch f l keeps all =
      hold_conn ch.connection (λ r. record r { channels = changed_at ch.chan f r.channels }) l keeps all

  module _ (lasts : Lasts s P) where
    -- ---- changes

    hold_clear : (ch : Channel) (f : ChannelLooks → ChannelLooks) (l : Looks) → Clears f → Hold l
        → Hold (on_channel ch f l)
    hold_clear ch f l clears all =
        hold_conn ch.connection (λ r. record r { channels = changed_at ch.chan f r.channels }) l
        (λ r here. lasts.cleared r ch.chan f clears here) all

    hold_if : (b : Bool) (m l : Looks) → Hold m → Hold l → Hold (if b then m else l)
    hold_if true m l here there = here
    hold_if false m l here there = there

    hold_counted : (x : Connection) (l : Looks) → Hold l → Hold (counted x l)
    hold_counted x l all =
        hold_conn x (λ r. record r { given = suc r.given; last_use = l.now }) l
        (λ r here. lasts.given r (suc r.given) l.now here) all

    hold_challenged : (d : CallName) (l : Looks) → Hold l → Hold (challenged s d l)
    hold_challenged d l all =
        hold_if (not (is_client s.kind) && (s.class.challenges && not (is_proved l (connection_of d))))
        (on_channel (channel_of d) (λ q. record q { owed_challenge = true }) l) l
        (hold_clear (channel_of d) (λ q. record q { owed_challenge = true }) l
        (record { number = λ q. refl; abort = λ q code is. is; response = λ q bytes is. is }) all) all

    -- ---- entering

    hold_placed : (new : ConnLooks) (o : Option ConnLooks) (l : Looks) → P new → Hold l → Hold (placed new o l)
    hold_placed new None l here all = every-append P l.conns (new ∷ []) all (here, tt)
    hold_placed new (Some old) l here all =
        every_map P P (λ r. if same_connection r.connection old.connection then new else r) l.conns
        (λ r own. if_conn (same_connection r.connection old.connection) (λ q. new) r (λ y. here) own) all

    hold_with_conn : (kind : Kind) (x : Connection) (l : Looks) → (IsServer kind → IsServer s.kind) → Hold l
        → Hold (with_conn s kind x l)
    hold_with_conn (Client host epoch) x l serves all = all
    hold_with_conn (Server service nonces) x l serves all =
        hold_placed (fresh_conn x x.host service 1 l) (if is_full s l then idle_conn l else None) l
        (lasts.entered x service l (serves tt)) all

    hold_prepared : (got : Took) (x : Connection) (l : Looks) → Hold l → Hold (prepared s got x l)
    hold_prepared got x l all =
        let ready : Looks = if enters got then entered s x l else l in
        hold_conn x (λ r. record r { last_use = ready.now }) ready (λ r here. lasts.used r ready.now here)
        (hold_if (enters got) (entered s x l) l
        (hold_if (is_some (conn_at l x)) l (with_conn s s.kind x l) all (hold_with_conn s.kind x l (λ is. is) all)) all)

    -- ---- a message is taken

    hold_opened : (d : CallName) (l : Looks) → MayStart d l → Hold l → Hold (opened s d l)
    hold_opened d l may all = of (nat_lt (channel_at l (channel_of d)).number d.number) refl
      where
        of : (b : Bool) → nat_lt (channel_at l (channel_of d)).number d.number ≡ b
            → Hold (if b then started_later s d l else l)
        of true above = may above all
        of false low = all

    hold_data : (got : Took) (d : CallName) (m : Message) (l : Looks) → Hold l → Hold (taken_data s got d m l)
    hold_data got d m l all =
        hold_challenged d (record (taken_at s got d m l) { firsts = with_first got d m.seq l.firsts }) all

    hold_heard : (d : CallName) (body : Body) (l : Looks) → MayTake tooks.Heard d body l → Hold l
        → Hold (taken_heard s d body l)
    hold_heard d (bodies.Ack a) l may all = hold_challenged d (on_call d settled l) all
    hold_heard d bodies.AckAll l may all = all
    hold_heard d (bodies.Response bytes) l may all =
        hold_conn (connection_of d) (λ r. record r { proved = true }) l (λ r here. lasts.proved r here) all
    hold_heard d (bodies.Challenge bytes) l may all = may all
    hold_heard d (bodies.Chunk payload) l may all = all
    hold_heard d bodies.Busy l may all = all
    hold_heard d (bodies.Abort code) l may all = all

    hold_stopped : (d : CallName) (body : Body) (l : Looks) → MayTake tooks.Stopped d body l → Hold l
        → Hold (taken_stopped d body l)
    hold_stopped d (bodies.Abort code) l may all =
        hold_if (d.number == 0) (stopped_all (connection_of d) code l) (on_life d (after_code code) l) all all
    hold_stopped d (bodies.Response bytes) l may all = may all
    hold_stopped d _ l may all = all

    hold_over : (d : CallName) (body : Body) (o : Option CallRecord) (l : Looks) → call_at l d ≡ o
        → MayTake tooks.Over d body l → Hold l → Hold (taken_over d body o l)
    hold_over d body None l there may all = all
    hold_over d body (Some k) l there may all = may k there all

    hold_busy : (d : CallName) (l : Looks) → Hold l → Hold (on_channel (channel_of d) (owing_busy d.number) l)
    hold_busy d l all =
        hold_clear (channel_of d) (owing_busy d.number) l
        (record { number = λ q. refl; abort = λ q code is. is; response = λ q bytes is. is }) all

    -- what is heard leaves the channels till then
    heard_may : (d : CallName) (m : Message) (body : Body) (l : Looks) → MayTake tooks.Heard d body l
        → MayTake tooks.Heard d body (taken_at s tooks.Heard d m l)
    heard_may d m (bodies.Challenge bytes) l may = may
    heard_may d m (bodies.Chunk payload) l may = tt
    heard_may d m bodies.Busy l may = tt
    heard_may d m (bodies.Ack a) l may = tt
    heard_may d m (bodies.Abort code) l may = tt
    heard_may d m bodies.AckAll l may = tt
    heard_may d m (bodies.Response bytes) l may = tt

    hold_with : (got : Took) (d : CallName) (m : Message) (l : Looks) → MayTake got d m.body l → Hold l
        → Hold (taken_with s got d m l)
    hold_with tooks.Kept d m l may all = hold_data tooks.Kept d m (opened s d l) (hold_opened d l may all)
    hold_with tooks.NoSlot d m l may all = hold_data tooks.NoSlot d m (opened s d l) (hold_opened d l may all)
    hold_with tooks.Repeat d m l may all = hold_data tooks.Repeat d m l all
    hold_with tooks.Beyond d m l may all = hold_data tooks.Beyond d m l all
    hold_with tooks.Clash d m l may all = hold_data tooks.Clash d m l all
    hold_with tooks.Heard d m l may all =
        hold_heard d m.body (taken_at s tooks.Heard d m l) (heard_may d m m.body l may) all
    hold_with tooks.Stopped d m l may all = hold_stopped d m.body l may all
    hold_with tooks.Busy d m l may all =
        hold_busy d (on_life (latest_name l (channel_of d)) (after_code RX_CALL_DEAD) l) all
    hold_with tooks.NoRoom d m l may all = hold_busy d l all
    hold_with tooks.Over d m l may all = hold_over d m.body (call_at l d) l refl may all
    hold_with tooks.Full d m l may all = all
    hold_with tooks.Old d m l may all = all
    hold_with tooks.Unserved d m l may all = all
    hold_with tooks.Foreign d m l may all = all
    hold_with tooks.Strange d m l may all = all
    hold_with (tooks.Bad bad) d m l may all = all

    hold_turned : (row : Took) (from : Host) (m : Message) (l : Looks) → Hold l → Hold (turned_away row from m l)
    hold_turned tooks.Unserved from m l all = of m.body
      where
        of : (body : Body) → Hold (taken_unserved from m body l)
        of (bodies.Chunk payload) = all
        of _ = all
    hold_turned _ from m l all = all

    hold_taken : (from : Host) (reading : Result Message BadMsg) (got : Took) (l : Looks)
        → MayTakeFrom l from reading got → Hold l → Hold (taken_message s from reading got l)
    hold_taken from (Err bad) got l may all = all
    hold_taken from (Ok m) got l may all = behind (outer_row s s.kind l from m) refl
      where
        d : CallName
        d = named s from m

        behind : (row : Option Took) → outer_row s s.kind l from m ≡ row → Hold (taken_behind s row from d m got l)
        behind (Some row) is = hold_turned row from m l all
        behind None is =
            hold_with got d m (prepared s got (connection_of d) l) (may is) (hold_prepared got (connection_of d) l all)

    -- ---- a message is given

    hold_body : (d : CallName) (m : Message) (body : Body) (l : Looks) → Hold l → Hold (given_body d m body l)
    hold_body d m (bodies.Chunk payload) l all = all
    hold_body d m (bodies.Ack a) l all = all
    hold_body d m (bodies.Abort code) l all =
        hold_clear (channel_of d) (λ q. record q { owed_abort = None }) l
        (record { number = λ q. refl; abort = λ q code is. absurd cc; response = λ q bytes is. is }) all
    hold_body d m bodies.Busy l all =
        hold_clear (channel_of d) (λ q. record q { owed_busy = None }) l
        (record { number = λ q. refl; abort = λ q code is. is; response = λ q bytes is. is }) all
    hold_body d m (bodies.Challenge bytes) l all =
        hold_clear (channel_of d) (λ q. record q { owed_challenge = false }) l
        (record { number = λ q. refl; abort = λ q code is. is; response = λ q bytes is. is }) all
    hold_body d m (bodies.Response bytes) l all =
        hold_clear (channel_of d) (λ q. record q { owed_response = None }) l
        (record { number = λ q. refl; abort = λ q code is. is; response = λ q bytes is. absurd cc }) all
    hold_body d m bodies.AckAll l all =
        hold_clear (channel_of d) (λ q. record q { owed_ackall = false }) l
        (record { number = λ q. refl; abort = λ q code is. is; response = λ q bytes is. is }) all

    hold_given : (got : Option (Host × List ℕ)) (l : Looks) → Hold l → Hold (given_by s got l)
    hold_given None l all = all
    hold_given (Some (to, bytes)) l all = of (reading_of bytes)
      where
        of : (reading : Result Message BadMsg) → Hold (given_message s to reading l)
        of (Err bad) = all
        of (Ok m) =
            hold_if (is_stray m m.body) (record l { strays = drop 1 l.strays })
            (given_body (named s to m) m m.body (counted (connection_of (named s to m)) l)) all
            (hold_body (named s to m) m m.body (counted (connection_of (named s to m)) l)
            (hold_counted (connection_of (named s to m)) l all))

    -- ---- calls of the application

    hold_finished : (d : CallName) (code : ℤ) (l : Looks) → MayFinish d code l → Hold l → Hold (finished d code l)
    hold_finished d code l may all = of (is_zero code) refl
      where
        of : (b : Bool) → is_zero code ≡ b
            → Hold (if b then on_looks d after_shut l else on_channel (channel_of d) (owing_abort (Some code)) l)
        of true none = all
        of false some = may some all

    hold_linked : (kind : Kind) (to : Host) (service first cid : ℕ) (l : Looks) → MayLink kind to service first cid l
        → Hold l → Hold (linked kind to service first cid l)
    hold_linked (Server service nonces) to other first cid l may all = all
    hold_linked (Client host epoch) to service first cid l may all =
        hold_placed (fresh_conn (record { host = host; epoch = epoch; cid = cid }) to service first l) None l may all

    -- behind each event
    pub hold_after : (l : Looks) (e : Event) → MayTell l e → Hold l → Hold (after s e l)
    hold_after l (events.Linked to service first (Ok cid)) may all = hold_linked s.kind to service first cid l may all
    hold_after l (events.Linked to service first (Err full)) may all = all
    hold_after l (events.Called cid (Ok c)) may all = may all
    hold_after l (events.Called cid (Err refused)) may all = all
    hold_after l (events.Wrote c offered got bytes) may all = all
    hold_after l (events.Shut c (Ok done)) may all = all
    hold_after l (events.Shut c (Err closed)) may all = all
    hold_after l (events.HasRead c max got bytes) may all =
        hold_clear (channel_of c) (owing_ackall (is_end got && is_call (λ k. is_calling k.life) (call_at l c))) l
        (clears_ackall (is_end got && is_call (λ k. is_calling k.life) (call_at l c))) all
    hold_after l (events.Ended c got) may all = all
    hold_after l (events.Cancelled c code (Ok done)) may all = may all
    hold_after l (events.Cancelled c code (Err closed)) may all = all
    hold_after l (events.Accepted (Some c)) may all = all
    hold_after l (events.Accepted None) may all = all
    hold_after l (events.Finished c code (Ok done)) may all = hold_finished c code l may all
    hold_after l (events.Finished c code (Err (refusals.Gone told))) may all = all
    hold_after l (events.Finished c code (Err refusals.NotOpen)) may all = all
    hold_after l (events.Finished c code (Err refusals.Unread)) may all = all
    hold_after l (events.Taken from bytes got) may all = hold_taken from (reading_of bytes) got l may all
    hold_after l (events.Polled got) may all = hold_given got (silenced l) all
    hold_after l (events.Clocked now) may all = all
