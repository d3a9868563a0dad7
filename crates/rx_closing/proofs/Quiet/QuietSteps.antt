-- A channel that owes nothing of its latest call, a BUSY of later ones aside, and what leaves it so.
use Rattle.std.proofs.Common.{◌≡◌, ◌<◌, ◌&&◌, ◌==◌, not, ℕ, ℤ, zero, suc, cond, if◌then◌else◌, nat_lt, is_some, drop}
use Rattle.std.proofs.Common.{Bool, true, false, List, [], ◌∷◌, Option, Some, None, Result, Ok, Err, refl, sym, subst}
use Rattle.std.proofs.Common.{ap, slice_get, ◌∙◌, map}
use Rattle.rx_model.specs.declared.answers.BadMsg.{BadMsg}
use Rattle.rx_model.specs.declared.answers.ServeRefused.TheVariants as refusals
use Rattle.rx_model.specs.declared.answers.Took.{Took}
use Rattle.rx_model.specs.declared.answers.Took.TheVariants as tooks
use Rattle.rx_model.specs.declared.event.Event.{Event}
use Rattle.rx_model.specs.declared.event.Event.TheVariants as events
use Rattle.rx_model.specs.declared.names.CallName.{CallName}
use Rattle.rx_model.specs.declared.names.Host.{Host}
use Rattle.rx_model.specs.declared.wire.TheConstants.{RX_CALL_DEAD, RX_PROTOCOL_ERROR}
use Rattle.rx_model.specs.Body.{Body}
use Rattle.rx_model.specs.Body as bodies
use Rattle.rx_model.specs.Message.{Message}
use Rattle.rx_model.specs.Names.{Channel, Connection, channel_of, connection_of, same_connection}
use Rattle.rx_model.specs.Reading.{reading_of}
use Rattle.rx_model.specs.Strays.{is_stray}
use Rattle.rx_model.proofs.NameLaws.{connection_itself}
use Rattle.rx_rules.specs.After.{after, challenged, counted, enters, given_body, given_by, given_message, is_end}
use Rattle.rx_rules.specs.After.{is_zero, linked, owing_abort, owing_ackall, owing_busy, owing_again, prepared, settled}
use Rattle.rx_rules.specs.After.{stopped_all, taken_at, taken_behind, taken_data, taken_heard, taken_message}
use Rattle.rx_rules.specs.After.{taken_over, taken_stopped, taken_unserved, taken_with, turned_away, with_first}
use Rattle.rx_rules.specs.CallLooks.{after_shut}
use Rattle.rx_rules.specs.Judging.{opened, outer_row}
use Rattle.rx_rules.specs.Life.{after_cancel, after_code, is_calling}
use Rattle.rx_rules.specs.Looks.{CallRecord, ChannelLooks, ConnLooks, Looks, call_at, changed_at, channel_at, conn_at}
use Rattle.rx_rules.specs.Looks.{fresh_channel, is_call, is_proved, latest_name, on_call, on_channel, on_conn, on_life}
use Rattle.rx_rules.specs.Looks.{on_looks}
use Rattle.rx_rules.specs.Records.{entered, fresh_conn, idle_conn, is_full, placed, silenced, started_later, with_conn}
use Rattle.rx_rules.specs.Setup.{Client, Kind, Server, Setup, is_client, named}
use Rattle.rx_rules.proofs.ConnsLaws.{conn_if}
use Rattle.rx_rules.proofs.EveryLaws.{Every, every-append}
use Rattle.rx_history.proofs.Differ.{every_map}
use Rattle.rx_plan.proofs.ChannelsHold.{Channels, channel_changed, fresh_channels}

-- it owes nothing of the call, where that is its latest; what asks for keys aside
pub record Hushes (own : CallName) (q : ChannelLooks) : Type 0 where
  pub abort : q.owed_abort ≡ None
  pub ackall : q.owed_ackall ≡ false
  pub busy : (n : ℕ) → q.owed_busy ≡ Some n → own.number < n

module _ (own : CallName) where
  pub hushes_fresh : (n : ℕ) → Hushes own (fresh_channel n)
  hushes_fresh n = record { abort = refl; ackall = refl; busy = λ k is. absurd cc }

  -- where it is the channel of the call
  abbrev pub HushesAt : Connection → ℕ → ℕ → ChannelLooks → Type 0
  HushesAt x order n q = ◌≡◌ {A = Channel} (record { connection = x; chan = n }) (channel_of own) → Hushes own q

  -- of each record
  abbrev pub Hold : List ConnLooks → Type 0
  Hold rs = Every (Channels HushesAt) rs

  -- it is left by a change of the channel of a call
  abbrev pub Leaves : CallName → (ChannelLooks → ChannelLooks) → Type 0
  Leaves d f = channel_of d ≡ channel_of own → (q : ChannelLooks) → Hushes own q → Hushes own (f q)

  if_conn : (b : Bool) (f : ConnLooks → ConnLooks) (r : ConnLooks) → (Channels HushesAt r → Channels HushesAt (f r))
      → Channels HushesAt r → Channels HushesAt (cond b (f r) r)
  if_conn true f r keeps here = keeps here
  if_conn false f r keeps here = here

  hold_conn : (x : Connection) (f : ConnLooks → ConnLooks) (l : Looks)
      → ((r : ConnLooks) → Channels HushesAt r → Channels HushesAt (f r)) → Hold l.conns
      → Hold (on_conn x f l).conns
  hold_conn x f l keeps all =
      every_map (Channels HushesAt) (Channels HushesAt) (conn_if x f) l.conns
      (λ r here. if_conn (same_connection r.connection x) f r (keeps r) here) all

  pub hold_channel : (d : CallName) (f : ChannelLooks → ChannelLooks) (l : Looks) → Leaves d f → Hold l.conns
      → Hold (on_channel (channel_of d) f l).conns
  hold_channel d f l keeps all =
      channel_changed HushesAt (channel_of d) f l (λ order q here same. keeps same q (here same)) all

  hold_if : (b : Bool) (m l : Looks) → Hold m.conns → Hold l.conns → Hold (if b then m else l).conns
  hold_if true m l here there = here
  hold_if false m l here there = there

  hold_placed : (new : ConnLooks) (o : Option ConnLooks) (l : Looks) → Channels HushesAt new → Hold l.conns
      → Hold (placed new o l).conns
  hold_placed new None l here all = every-append (Channels HushesAt) l.conns (new ∷ []) all (here, tt)
  hold_placed new (Some old) l here all =
      every_map (Channels HushesAt) (Channels HushesAt)
      (λ r. if same_connection r.connection old.connection then new else r) l.conns
      (λ r own. if_conn (same_connection r.connection old.connection) (λ q. new) r (λ y. here) own) all

  fresh_all : (x : Connection) (peer : Host) (service first : ℕ) (l : Looks)
      → Channels HushesAt (fresh_conn x peer service first l)
  fresh_all x peer service first l = fresh_channels HushesAt x peer service first l (λ order n same. hushes_fresh 0)

  -- ---- a call starts

  started_get : (n : ℕ) (new : ChannelLooks) (qs : List ChannelLooks) (q : ChannelLooks)
      → slice_get (changed_at n (λ p. new) qs) n ≡ Some q → q ≡ new
  started_get n new [] q is = absurd cc
  started_get zero new (p ∷ ps) q is = (let same : new ≡ q = cc in sym same)
  started_get (suc n) new (p ∷ ps) q is = started_get n new ps q is

  -- whatever was owed before
  pub started_holds : (number : ℕ) (rs : List ConnLooks)
      → Hold (map (conn_if (connection_of own) (λ r. record r
      { channels = changed_at own.chan (λ q. fresh_channel number) r.channels })) rs)
  started_holds number [] = tt
  started_holds number (r ∷ rs) = (one (same_connection r.connection (connection_of own)) refl, started_holds number rs)
    where
      one : (b : Bool) → same_connection r.connection (connection_of own) ≡ b
          → Channels HushesAt (cond b (record r
          { channels = changed_at own.chan (λ q. fresh_channel number) r.channels }) r)
      one true mine n q there same =
          (let chan : n ≡ own.chan = ap (λ (ch : Channel). ch.chan) same in
          let fresh : q ≡ fresh_channel number =
          started_get own.chan (fresh_channel number) r.channels q
          (subst (λ (k : ℕ). slice_get (changed_at own.chan (λ p. fresh_channel number) r.channels) k ≡ Some q) chan
          there) in
          subst (Hushes own) (sym fresh) (hushes_fresh number))
      one false other n q there same =
          absurd (let conn : r.connection ≡ connection_of own = ap (λ (ch : Channel). ch.connection) same in
          let yes : same_connection r.connection (connection_of own) ≡ true =
          ap (λ (x : Connection). same_connection x (connection_of own)) conn
          ∙ connection_itself (connection_of own) in
          let no : true ≡ false = sym yes ∙ other in cc (no))

  module _ (s : Setup) where
    -- ---- a message is taken

    hold_with_conn : (kind : Kind) (x : Connection) (l : Looks) → Hold l.conns → Hold (with_conn s kind x l).conns
    hold_with_conn (Client host epoch) x l all = all
    hold_with_conn (Server service nonces) x l all =
        hold_placed (fresh_conn x x.host service 1 l) (if is_full s l then idle_conn l else None) l
        (fresh_all x x.host service 1 l) all

    hold_prepared : (got : Took) (x : Connection) (l : Looks) → Hold l.conns → Hold (prepared s got x l).conns
    hold_prepared got x l all =
        let ready : Looks = if enters got then entered s x l else l in
        hold_conn x (λ r. record r { last_use = ready.now }) ready (λ r here. here)
        (hold_if (enters got) (entered s x l) l
        (hold_if (is_some (conn_at l x)) l (with_conn s s.kind x l) all (hold_with_conn s.kind x l all)) all)

    hold_challenged : (d : CallName) (l : Looks) → Hold l.conns → Hold (challenged s d l).conns
    hold_challenged d l all =
        hold_if (not (is_client s.kind) && (s.class.challenges && not (is_proved l (connection_of d))))
        (on_channel (channel_of d) (λ q. record q { owed_challenge = true }) l) l
        (hold_channel d (λ q. record q { owed_challenge = true }) l
        (λ same q here. record { abort = here.abort; ackall = here.ackall; busy = here.busy }) all) all

    hold_opened : (d : CallName) (l : Looks) → Hold l.conns → Hold (opened s d l).conns
    hold_opened d l all =
        hold_if (nat_lt (channel_at l (channel_of d)).number d.number) (started_later s d l) l
        (hold_channel d (λ q. fresh_channel d.number) l (λ same q here. hushes_fresh d.number) all) all

    pub hold_data : (got : Took) (d : CallName) (m : Message) (l : Looks) → Hold l.conns
        → Hold (taken_data s got d m l).conns
    hold_data got d m l all =
        hold_challenged d (record (taken_at s got d m l) { firsts = with_first got d m.seq l.firsts }) all

    hold_heard : (d : CallName) (body : Body) (l : Looks) → Hold l.conns → Hold (taken_heard s d body l).conns
    hold_heard d (bodies.Ack a) l all = hold_challenged d (on_call d settled l) all
    hold_heard d (bodies.Response bytes) l all =
        hold_conn (connection_of d) (λ r. record r { proved = true }) l (λ r here. here) all
    hold_heard d (bodies.Challenge bytes) l all =
        hold_channel d (λ q. record q { owed_response = s.class.respond d bytes }) l
        (λ same q here. record { abort = here.abort; ackall = here.ackall; busy = here.busy }) all
    hold_heard d _ l all = all

    -- ---- what a message may tell

    -- an answer that tells a channel only what leaves it
    abbrev pub StopsSo : CallName → Body → Type 0
    StopsSo d (bodies.Response bytes) = Leaves d (owing_abort (Some RX_PROTOCOL_ERROR))
    StopsSo d _ = Unit {0}

    abbrev pub TakesSo : Took → CallName → Body → Looks → Type 0
    TakesSo tooks.Busy d body l = Leaves d (owing_busy d.number)
    TakesSo tooks.NoRoom d body l = Leaves d (owing_busy d.number)
    TakesSo tooks.Over d body l = (k : CallRecord) → call_at l d ≡ Some k → Leaves d (owing_again body k.life)
    TakesSo tooks.Stopped d body l = StopsSo d body
    TakesSo _ d body l = Unit {0}

    hold_stopped : (d : CallName) (body : Body) (l : Looks) → StopsSo d body → Hold l.conns
        → Hold (taken_stopped d body l).conns
    hold_stopped d (bodies.Abort code) l may all =
        hold_if (d.number == 0) (stopped_all (connection_of d) code l) (on_life d (after_code code) l) all all
    hold_stopped d (bodies.Response bytes) l may all =
        hold_channel d (owing_abort (Some RX_PROTOCOL_ERROR)) (on_life d (after_code RX_PROTOCOL_ERROR) l)
        may all
    hold_stopped d _ l may all = all

    hold_over : (d : CallName) (body : Body) (o : Option CallRecord) (l : Looks)
        → ((k : CallRecord) → o ≡ Some k → Leaves d (owing_again body k.life)) → Hold l.conns
        → Hold (taken_over d body o l).conns
    hold_over d body None l may all = all
    hold_over d body (Some k) l may all = hold_channel d (owing_again body k.life) l (may k refl) all

    hold_with : (got : Took) (d : CallName) (m : Message) (l : Looks) → TakesSo got d m.body l → Hold l.conns
        → Hold (taken_with s got d m l).conns
    hold_with tooks.Kept d m l may all = hold_data tooks.Kept d m (opened s d l) (hold_opened d l all)
    hold_with tooks.NoSlot d m l may all = hold_data tooks.NoSlot d m (opened s d l) (hold_opened d l all)
    hold_with tooks.Repeat d m l may all = hold_data tooks.Repeat d m l all
    hold_with tooks.Beyond d m l may all = hold_data tooks.Beyond d m l all
    hold_with tooks.Clash d m l may all = hold_data tooks.Clash d m l all
    hold_with tooks.Heard d m l may all = hold_heard d m.body (taken_at s tooks.Heard d m l) all
    hold_with tooks.Stopped d m l may all = hold_stopped d m.body l may all
    hold_with tooks.Busy d m l may all =
        hold_channel d (owing_busy d.number)
        (on_life (latest_name l (channel_of d)) (after_code RX_CALL_DEAD) l) may all
    hold_with tooks.NoRoom d m l may all = hold_channel d (owing_busy d.number) l may all
    hold_with tooks.Over d m l may all = hold_over d m.body (call_at l d) l may all
    hold_with _ d m l may all = all

    hold_turned : (row : Took) (from : Host) (m : Message) (l : Looks) → Hold l.conns
        → Hold (turned_away row from m l).conns
    hold_turned tooks.Unserved from m l all = of m.body
      where
        of : (body : Body) → Hold (taken_unserved from m body l).conns
        of (bodies.Chunk payload) = all
        of _ = all
    hold_turned row from m l all = all

    -- a message whose rows do
    abbrev pub ReadsSo : Looks → Host → Result Message BadMsg → Took → Type 0
    ReadsSo l from (Err bad) got = Unit {0}
    ReadsSo l from (Ok m) got =
        outer_row s s.kind l from m ≡ None
        → TakesSo got (named s from m) m.body (prepared s got (connection_of (named s from m)) l)

    hold_taken : (from : Host) (reading : Result Message BadMsg) (got : Took) (l : Looks) → ReadsSo l from reading got
        → Hold l.conns → Hold (taken_message s from reading got l).conns
    hold_taken from (Err bad) got l may all = all
    hold_taken from (Ok m) got l may all = of (outer_row s s.kind l from m) refl
      where
        d : CallName
        d = named s from m

        of : (row : Option Took) → outer_row s s.kind l from m ≡ row → Hold (taken_behind s row from d m got l).conns
        of (Some row) is = hold_turned row from m l all
        of None is =
            hold_with got d m (prepared s got (connection_of d) l) (may is) (hold_prepared got (connection_of d) l all)

    -- ---- a poll

    hold_body : (d : CallName) (m : Message) (body : Body) (l : Looks) → Hold l.conns
        → Hold (given_body d m body l).conns
    hold_body d m (bodies.Chunk payload) l all = all
    hold_body d m (bodies.Ack a) l all = all
    hold_body d m (bodies.Abort code) l all =
        hold_channel d (λ q. record q { owed_abort = None }) l
        (λ same q here. record { abort = refl; ackall = here.ackall; busy = here.busy }) all
    hold_body d m bodies.Busy l all =
        hold_channel d (λ q. record q { owed_busy = None }) l
        (λ same q here. record { abort = here.abort; ackall = here.ackall; busy = λ n is. absurd cc }) all
    hold_body d m (bodies.Challenge bytes) l all =
        hold_channel d (λ q. record q { owed_challenge = false }) l
        (λ same q here. record { abort = here.abort; ackall = here.ackall; busy = here.busy }) all
    hold_body d m (bodies.Response bytes) l all =
        hold_channel d (λ q. record q { owed_response = None }) l
        (λ same q here. record { abort = here.abort; ackall = here.ackall; busy = here.busy }) all
    hold_body d m bodies.AckAll l all =
        hold_channel d (λ q. record q { owed_ackall = false }) l
        (λ same q here. record { abort = here.abort; ackall = refl; busy = here.busy }) all

    hold_given : (to : Host) (reading : Result Message BadMsg) (l : Looks) → Hold l.conns
        → Hold (given_message s to reading l).conns
    hold_given to (Err bad) l all = all
    hold_given to (Ok m) l all = of (is_stray m m.body)
      where
        d : CallName
        d = named s to m

        of : (b : Bool)
            → Hold (if b then record l { strays = drop 1 l.strays }
            else given_body d m m.body (counted (connection_of d) l)).conns
        of true = all
        of false =
            hold_body d m m.body (counted (connection_of d) l)
            (hold_conn (connection_of d) (λ r. record r { given = suc r.given; last_use = l.now }) l
            (λ r here. here) all)

    hold_polled : (got : Option (Host × List ℕ)) (l : Looks) → Hold l.conns → Hold (given_by s got l).conns
    hold_polled None l all = all
    hold_polled (Some (to, bytes)) l all = hold_given to (reading_of bytes) l all

    -- ---- the application's calls

    hold_finished : (b : Bool) (d : CallName) (code : ℤ) (l : Looks)
        → (b ≡ false → Leaves d (owing_abort (Some code))) → Hold l.conns
        → Hold (if b then on_looks d after_shut l else on_channel (channel_of d) (owing_abort (Some code)) l).conns
    hold_finished true d code l may all = all
    hold_finished false d code l may all = hold_channel d (owing_abort (Some code)) l (may refl) all

    hold_linked : (kind : Kind) (to : Host) (service first cid : ℕ) (l : Looks) → Hold l.conns
        → Hold (linked kind to service first cid l).conns
    hold_linked (Server service nonces) to other first cid l all = all
    hold_linked (Client host epoch) to service first cid l all =
        hold_placed (fresh_conn (record { host = host; epoch = epoch; cid = cid }) to service first l) None l
        (fresh_all (record { host = host; epoch = epoch; cid = cid }) to service first l) all

    -- ---- each event

    -- an event that tells a channel only what leaves it
    abbrev pub GoesSo : Looks → Event → Type 0
    GoesSo l (events.Taken from bytes got) = ReadsSo l from (reading_of bytes) got
    GoesSo l (events.HasRead c max got bytes) =
        Leaves c (owing_ackall (is_end got && is_call (λ k. is_calling k.life) (call_at l c)))
    GoesSo l (events.Finished c code (Ok done)) = is_zero code ≡ false → Leaves c (owing_abort (Some code))
    GoesSo l (events.Cancelled c code (Ok done)) = Leaves c (owing_abort (Some code))
    GoesSo l _ = Unit {0}

    pub hold_after : (l : Looks) (e : Event) → GoesSo l e → Hold l.conns → Hold (after s e l).conns
    hold_after l (events.Linked to service first (Ok cid)) may all = hold_linked s.kind to service first cid l all
    hold_after l (events.Linked to service first (Err full)) may all = all
    hold_after l (events.Called cid (Ok c)) may all =
        hold_channel c (λ q. fresh_channel c.number) l (λ same q here. hushes_fresh c.number) all
    hold_after l (events.Called cid (Err refused)) may all = all
    hold_after l (events.Wrote c offered got bytes) may all = all
    hold_after l (events.Shut c (Ok done)) may all = all
    hold_after l (events.Shut c (Err closed)) may all = all
    hold_after l (events.HasRead c max got bytes) may all =
        hold_channel c (owing_ackall
        (is_end got && is_call (λ k. is_calling k.life) (call_at l c))) l may all
    hold_after l (events.Ended c got) may all = all
    hold_after l (events.Cancelled c code (Ok done)) may all =
        hold_channel c (owing_abort (Some code)) (on_life c (after_cancel code) l) may all
    hold_after l (events.Cancelled c code (Err closed)) may all = all
    hold_after l (events.Accepted (Some c)) may all = all
    hold_after l (events.Accepted None) may all = all
    hold_after l (events.Finished c code (Ok done)) may all = hold_finished (is_zero code) c code l may all
    hold_after l (events.Finished c code (Err (refusals.Gone told))) may all = all
    hold_after l (events.Finished c code (Err refusals.NotOpen)) may all = all
    hold_after l (events.Finished c code (Err refusals.Unread)) may all = all
    hold_after l (events.Taken from bytes got) may all = hold_taken from (reading_of bytes) got l may all
    hold_after l (events.Polled got) may all = hold_polled got (silenced l) all
    hold_after l (events.Clocked now) may all = all
