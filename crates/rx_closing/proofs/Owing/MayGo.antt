-- Which events leave a node whose channels owe only what they may, by the names of their latest calls, where nodes
-- challenge none.
use Rattle.std.proofs.Common.{◌≡◌, ◌&&◌, ◌==◌, not, ℕ, ℤ, suc, if◌then◌else◌, nat_lt, is_some, drop, Bool, true, false}
use Rattle.std.proofs.Common.{List, Option, Some, None, Result, Ok, Err, refl, sym, subst}
use Rattle.rx_model.specs.declared.answers.BadMsg.{BadMsg}
use Rattle.rx_model.specs.declared.answers.ServeRefused.TheVariants as refusals
use Rattle.rx_model.specs.declared.answers.Took.{Took}
use Rattle.rx_model.specs.declared.answers.Took.TheVariants as tooks
use Rattle.rx_model.specs.declared.event.Event.{Event}
use Rattle.rx_model.specs.declared.event.Event.TheVariants as events
use Rattle.rx_model.specs.declared.names.CallName.{CallName}
use Rattle.rx_model.specs.declared.names.Host.{Host}
use Rattle.rx_model.specs.Body.{Body}
use Rattle.rx_model.specs.Body as bodies
use Rattle.rx_model.specs.Message.{Message}
use Rattle.rx_model.specs.Names.{Connection, channel_of, connection_of}
use Rattle.rx_model.specs.Reading.{reading_of}
use Rattle.rx_model.specs.Strays.{is_stray}
use Rattle.rx_rules.specs.After.{after, challenged, counted, enters, given_body, given_by, given_message, is_end}
use Rattle.rx_rules.specs.After.{is_zero, linked, owing_abort, owing_ackall, owing_again, prepared, settled}
use Rattle.rx_rules.specs.After.{stopped_all, taken_at, taken_behind, taken_data, taken_heard, taken_message}
use Rattle.rx_rules.specs.After.{taken_over, taken_stopped, taken_unserved, taken_with, turned_away, with_first}
use Rattle.rx_rules.specs.CallLooks.{after_shut}
use Rattle.rx_rules.specs.Judging.{opened, outer_row}
use Rattle.rx_rules.specs.Life.{after_code, is_calling}
use Rattle.rx_rules.specs.Looks.{CallRecord, Looks, call_at, channel_at, conn_at, fresh_channel, is_call, is_proved}
use Rattle.rx_rules.specs.Looks.{on_call, on_channel, on_life, on_looks}
use Rattle.rx_rules.specs.Records.{entered, fresh_conn, idle_conn, is_full, silenced, started_later, with_conn}
use Rattle.rx_rules.specs.Setup.{Client, Kind, Server, Setup, is_client, named}
use Rattle.rx_plan.proofs.ChannelsHold.{IsOwnLatest, latest_changed}
use Rattle.rx_closing.proofs.Owing.ChannelsStay.{IsMute}
use Rattle.rx_closing.proofs.Owing.MayOwe.{EachMay, MayOwe, Sits, Tells, again_may, fresh_all, fresh_may, hold_channel}
use Rattle.rx_closing.proofs.Owing.MayOwe.{hold_conn, hold_if, hold_placed, no_abort, no_ackall, no_busy, no_challenge}
use Rattle.rx_closing.proofs.Owing.MayOwe.{no_response}
use Rattle.rx_closing.proofs.Owing.OwesNone.{StopsQuietly}

module _ (A K : CallName → Type 0) (s : Setup) (mute : IsMute s.class) where
  abbrev Holds : Looks → Type 0
  Holds l = EachMay A K l

  -- ---- a message is taken

  hold_with_conn : (kind : Kind) (x : Connection) (l : Looks) → Holds l → Holds (with_conn s kind x l)
  hold_with_conn (Client host epoch) x l all = all
  hold_with_conn (Server service nonces) x l all =
      hold_placed A K (fresh_conn x x.host service 1 l) (if is_full s l then idle_conn l else None) l
      (fresh_all A K x x.host service 1 l) all

  hold_prepared : (got : Took) (x : Connection) (l : Looks) → Holds l → Holds (prepared s got x l)
  hold_prepared got x l all =
      let ready : Looks = if enters got then entered s x l else l in
      hold_conn A K x (λ r. record r { last_use = ready.now }) ready (λ r here. here)
      (hold_if A K (enters got) (entered s x l) l
      (hold_if A K (is_some (conn_at l x)) l (with_conn s s.kind x l) all (hold_with_conn s.kind x l all)) all)

  hold_challenged : (d : CallName) (l : Looks) → Holds l → Holds (challenged s d l)
  hold_challenged d l all =
      of (not (is_client s.kind)) s.class.challenges mute.still (not (is_proved l (connection_of d)))
    where
      of : (a b : Bool) → b ≡ false → (e : Bool)
          → Holds (if a && (b && e) then on_channel (channel_of d) (λ q. record q { owed_challenge = true }) l else l)
      of true true never e = absurd cc
      of true false never e = all
      of false b never e = all

  hold_opened : (d : CallName) (l : Looks) → Holds l → Holds (opened s d l)
  hold_opened d l all =
      hold_if A K (nat_lt (channel_at l (channel_of d)).number d.number) (started_later s d l) l
      (hold_channel A K (channel_of d) (λ q. fresh_channel d.number) l (λ ch q here. fresh_may A K ch d.number) all) all

  hold_data : (got : Took) (d : CallName) (m : Message) (l : Looks) → Holds l → Holds (taken_data s got d m l)
  hold_data got d m l all =
      hold_challenged d (record (taken_at s got d m l) { firsts = with_first got d m.seq l.firsts }) all

  hold_heard : (d : CallName) (body : Body) (l : Looks) → Holds l → Holds (taken_heard s d body l)
  hold_heard d (bodies.Ack a) l all = hold_challenged d (on_call d settled l) all
  hold_heard d (bodies.Response bytes) l all =
      hold_conn A K (connection_of d) (λ r. record r { proved = true }) l (λ r here. here) all
  hold_heard d (bodies.Challenge bytes) l all =
      hold_channel A K (channel_of d) (λ q. record q { owed_response = s.class.respond d bytes }) l
      (λ ch q here.
      subst (λ (o : Option (List ℕ)). MayOwe A K ch (record q { owed_response = o })) (sym (mute.mute d bytes))
      (no_response A K ch q here)) all
  hold_heard d _ l all = all

  -- an answer that makes a channel owe only what it may
  abbrev pub TakesFor : Took → CallName → Body → Looks → Type 0
  TakesFor tooks.Busy d body l = ⊥
  TakesFor tooks.NoRoom d body l = ⊥
  TakesFor tooks.Over d body l =
      IsOwnLatest l d × ((k : CallRecord) → call_at l d ≡ Some k → Tells A K body k.life d)
  TakesFor tooks.Stopped d body l = StopsQuietly body
  TakesFor _ d body l = Unit {0}

  hold_stopped : (d : CallName) (body : Body) (l : Looks) → StopsQuietly body → Holds l
      → Holds (taken_stopped d body l)
  hold_stopped d (bodies.Abort code) l may all =
      hold_if A K (d.number == 0) (stopped_all (connection_of d) code l) (on_life d (after_code code) l) all all
  hold_stopped d (bodies.Response bytes) l may all = absurd may
  hold_stopped d _ l may all = all

  hold_over : (d : CallName) (body : Body) (o : Option CallRecord) (l : Looks) → IsOwnLatest l d
      → ((k : CallRecord) → o ≡ Some k → Tells A K body k.life d) → Holds l → Holds (taken_over d body o l)
  hold_over d body None l own may all = all
  hold_over d body (Some k) l own may all =
      latest_changed (Sits A K) d (owing_again body k.life) l own
      (λ order q number here. again_may A K body k.life d q number (may k refl) here) all

  hold_with : (got : Took) (d : CallName) (m : Message) (l : Looks) → TakesFor got d m.body l → Holds l
      → Holds (taken_with s got d m l)
  hold_with tooks.Kept d m l may all = hold_data tooks.Kept d m (opened s d l) (hold_opened d l all)
  hold_with tooks.NoSlot d m l may all = hold_data tooks.NoSlot d m (opened s d l) (hold_opened d l all)
  hold_with tooks.Repeat d m l may all = hold_data tooks.Repeat d m l all
  hold_with tooks.Beyond d m l may all = hold_data tooks.Beyond d m l all
  hold_with tooks.Clash d m l may all = hold_data tooks.Clash d m l all
  hold_with tooks.Heard d m l may all = hold_heard d m.body (taken_at s tooks.Heard d m l) all
  hold_with tooks.Stopped d m l may all = hold_stopped d m.body l may all
  hold_with tooks.Busy d m l may all = absurd may
  hold_with tooks.NoRoom d m l may all = absurd may
  hold_with tooks.Over d m l may all = hold_over d m.body (call_at l d) l may.0 may.1 all
  hold_with _ d m l may all = all

  hold_turned : (row : Took) (from : Host) (m : Message) (l : Looks) → Holds l → Holds (turned_away row from m l)
  hold_turned tooks.Unserved from m l all = of m.body
    where
      of : (body : Body) → Holds (taken_unserved from m body l)
      of (bodies.Chunk payload) = all
      of _ = all
  hold_turned row from m l all = all

  -- the same of a datagram
  abbrev pub ReadsFor : Looks → Host → Result Message BadMsg → Took → Type 0
  ReadsFor l from (Err bad) got = Unit {0}
  ReadsFor l from (Ok m) got =
      outer_row s s.kind l from m ≡ None
      → TakesFor got (named s from m) m.body (prepared s got (connection_of (named s from m)) l)

  hold_taken : (from : Host) (reading : Result Message BadMsg) (got : Took) (l : Looks)
      → ReadsFor l from reading got → Holds l → Holds (taken_message s from reading got l)
  hold_taken from (Err bad) got l may all = all
  hold_taken from (Ok m) got l may all = of (outer_row s s.kind l from m) refl
    where
      d : CallName
      d = named s from m

      of : (row : Option Took) → outer_row s s.kind l from m ≡ row → Holds (taken_behind s row from d m got l)
      of (Some row) is = hold_turned row from m l all
      of None is =
          hold_with got d m (prepared s got (connection_of d) l) (may is)
          (hold_prepared got (connection_of d) l all)

  -- ---- a poll

  hold_body : (d : CallName) (m : Message) (body : Body) (l : Looks) → Holds l → Holds (given_body d m body l)
  hold_body d m (bodies.Chunk payload) l all = all
  hold_body d m (bodies.Ack a) l all = all
  hold_body d m (bodies.Abort code) l all =
      hold_channel A K (channel_of d) (λ q. record q { owed_abort = None }) l (no_abort A K) all
  hold_body d m bodies.Busy l all =
      hold_channel A K (channel_of d) (λ q. record q { owed_busy = None }) l (no_busy A K) all
  hold_body d m (bodies.Challenge bytes) l all =
      hold_channel A K (channel_of d) (λ q. record q { owed_challenge = false }) l (no_challenge A K) all
  hold_body d m (bodies.Response bytes) l all =
      hold_channel A K (channel_of d) (λ q. record q { owed_response = None }) l (no_response A K) all
  hold_body d m bodies.AckAll l all =
      hold_channel A K (channel_of d) (λ q. record q { owed_ackall = false }) l (no_ackall A K) all

  hold_given : (to : Host) (reading : Result Message BadMsg) (l : Looks) → Holds l
      → Holds (given_message s to reading l)
  hold_given to (Err bad) l all = all
  hold_given to (Ok m) l all = of (is_stray m m.body)
    where
      d : CallName
      d = named s to m

      of : (b : Bool)
          → Holds (if b then record l { strays = drop 1 l.strays }
          else given_body d m m.body (counted (connection_of d) l))
      of true = all
      of false =
          hold_body d m m.body (counted (connection_of d) l)
          (hold_conn A K (connection_of d) (λ r. record r { given = suc r.given; last_use = l.now }) l
          (λ r here. here) all)

  hold_polled : (got : Option (Host × List ℕ)) (l : Looks) → Holds l → Holds (given_by s got l)
  hold_polled None l all = all
  hold_polled (Some (to, bytes)) l all = hold_given to (reading_of bytes) l all

  -- ---- the application's calls

  hold_finished : (b : Bool) (d : CallName) (code : ℤ) (l : Looks) → b ≡ true → Holds l
      → Holds (if b then on_looks d after_shut l else on_channel (channel_of d) (owing_abort (Some code)) l)
  hold_finished true d code l may all = all
  hold_finished false d code l may all = absurd cc

  hold_linked : (kind : Kind) (to : Host) (service first cid : ℕ) (l : Looks) → Holds l
      → Holds (linked kind to service first cid l)
  hold_linked (Server service nonces) to other first cid l all = all
  hold_linked (Client host epoch) to service first cid l all =
      hold_placed A K (fresh_conn (record { host = host; epoch = epoch; cid = cid }) to service first l) None l
      (fresh_all A K (record { host = host; epoch = epoch; cid = cid }) to service first l) all

  hold_read : (b : Bool) (d : CallName) (l : Looks) → b ≡ false → Holds l
      → Holds (on_channel (channel_of d) (owing_ackall b) l)
  hold_read true d l may all = absurd cc
  hold_read false d l may all = hold_channel A K (channel_of d) (owing_ackall false) l (λ ch q here. here) all

  -- ---- each event

  -- an event that makes a channel owe only what it may
  abbrev pub GoesFor : Looks → Event → Type 0
  GoesFor l (events.Taken from bytes got) = ReadsFor l from (reading_of bytes) got
  GoesFor l (events.HasRead c max got bytes) = (is_end got && is_call (λ k. is_calling k.life) (call_at l c)) ≡ false
  GoesFor l (events.Finished c code (Ok done)) = is_zero code ≡ true
  GoesFor l (events.Cancelled c code (Ok done)) = ⊥
  GoesFor l _ = Unit {0}

  -- behind such an event no channel owes more than it may
  pub holds_after : (l : Looks) (e : Event) → GoesFor l e → Holds l → Holds (after s e l)
  holds_after l (events.Linked to service first (Ok cid)) may all = hold_linked s.kind to service first cid l all
  holds_after l (events.Linked to service first (Err full)) may all = all
  holds_after l (events.Called cid (Ok c)) may all =
      hold_channel A K (channel_of c) (λ q. fresh_channel c.number) l (λ ch q here. fresh_may A K ch c.number) all
  holds_after l (events.Called cid (Err refused)) may all = all
  holds_after l (events.Wrote c offered got bytes) may all = all
  holds_after l (events.Shut c (Ok done)) may all = all
  holds_after l (events.Shut c (Err closed)) may all = all
  holds_after l (events.HasRead c max got bytes) may all =
      hold_read (is_end got && is_call (λ k. is_calling k.life) (call_at l c)) c l may all
  holds_after l (events.Ended c got) may all = all
  holds_after l (events.Cancelled c code (Ok done)) may all = absurd may
  holds_after l (events.Cancelled c code (Err closed)) may all = all
  holds_after l (events.Accepted (Some c)) may all = all
  holds_after l (events.Accepted None) may all = all
  holds_after l (events.Finished c code (Ok done)) may all = hold_finished (is_zero code) c code l may all
  holds_after l (events.Finished c code (Err (refusals.Gone told))) may all = all
  holds_after l (events.Finished c code (Err refusals.NotOpen)) may all = all
  holds_after l (events.Finished c code (Err refusals.Unread)) may all = all
  holds_after l (events.Taken from bytes got) may all = hold_taken from (reading_of bytes) got l may all
  holds_after l (events.Polled got) may all = hold_polled got (silenced l) all
  holds_after l (events.Clocked now) may all = all
