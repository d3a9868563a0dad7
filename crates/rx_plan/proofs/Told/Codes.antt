-- The code that a call's life tells is one that an event gave it.
use Rattle.std.proofs.Common.{◌≡◌, ◌==◌, ◌<◌, cond, if◌then◌else◌, nat_lt, drop, ℕ, ℤ, Bool, true, false}
use Rattle.std.proofs.Common.{List, Option, Some, None, option_map, Result, Ok, Err, refl, sym}
use Rattle.std.proofs.Common.{subst}
use Rattle.std.specs.List.{find}
use Rattle.rx_model.specs.declared.answers.BadMsg.{BadMsg}
use Rattle.rx_model.specs.declared.answers.ServeRefused.{ServeRefused}
use Rattle.rx_model.specs.declared.answers.ServeRefused.TheVariants as refusals
use Rattle.rx_model.specs.declared.answers.Took.{Took}
use Rattle.rx_model.specs.declared.answers.Took.TheVariants as tooks
use Rattle.rx_model.specs.declared.event.Event.{Event}
use Rattle.rx_model.specs.declared.event.Event.TheVariants as events
use Rattle.rx_model.specs.declared.names.CallName.{CallName}
use Rattle.rx_model.specs.declared.names.Host.{Host}
use Rattle.rx_model.specs.declared.wire.TheConstants.{RX_CALL_DEAD, RX_PROTOCOL_ERROR}
use Rattle.rx_model.specs.Body.{Body}
use Rattle.rx_model.specs.Body as bodies
use Rattle.rx_model.specs.Message.{Message}
use Rattle.rx_model.specs.Names.{Connection, channel_of, connection_of, same_connection, same_name}
use Rattle.rx_model.specs.Reading.{reading_of}
use Rattle.rx_model.specs.Strays.{is_stray}
use Rattle.rx_model.proofs.NameLaws.{name_is}
use Rattle.rx_rules.specs.After.{acknowledged, after, challenged, counted, finish_done, finished, given_body}
use Rattle.rx_rules.specs.After.{given_by, given_message, is_end, is_zero, linked, owing_abort, prepared, settled}
use Rattle.rx_rules.specs.After.{stopped_all, taken_at, taken_behind, taken_data, taken_heard, taken_message}
use Rattle.rx_rules.specs.After.{taken_over}
use Rattle.rx_rules.specs.After.{taken_stopped, taken_with, told_code, turned_away, with_first}
use Rattle.rx_rules.specs.CallLooks.{CallLooks, after_ack_given, after_piece, after_read, after_shut, after_taken}
use Rattle.rx_rules.specs.CallLooks.{after_write, fresh_call, is_delivered}
use Rattle.rx_rules.specs.Judging.{opened, outer_row}
use Rattle.rx_rules.specs.Life.{Life, after_accept, after_acks, after_cancel, after_code, after_end, after_finish}
use Rattle.rx_rules.specs.Life.{after_gone, after_later, after_silence}
use Rattle.rx_rules.specs.Life as lives
use Rattle.rx_rules.specs.Looks.{CallRecord, Looks, call_at, channel_at, latest_name, on_call, on_calls, on_channel}
use Rattle.rx_rules.specs.Looks.{on_life, on_looks}
use Rattle.rx_rules.specs.Records.{is_silent, silence_of, silenced, started, started_later, unless_silent}
use Rattle.rx_rules.specs.Setup.{Client, Kind, Server, Setup, named, pace_of}
use Rattle.rx_rules.specs.Slots.{node_view}
use Rattle.rx_rules.proofs.CallsLaws.{KeepsNames, call_at-on_calls}
use Rattle.rx_rules.proofs.FindLaws.{find_passes}
use Rattle.rx_rules.proofs.StartLaws.{call_at-other}
use Rattle.rx_history.proofs.Calls.{call-changed}
use Rattle.rx_history.proofs.Takes.{call_at-any}
use Rattle.rx_plan.proofs.Told.Lives.{Tells, tells_accept, tells_acks, tells_cancel, tells_code, tells_end}
use Rattle.rx_plan.proofs.Told.Lives.{tells_finish, tells_gone, tells_later, tells_silence}
use Rattle.rx_history.proofs.Events.{calls-prepared, calls-turned}
use Rattle.rx_history.proofs.Room.RoomTaken.{challenged-calls}

-- the code that a call tells, if it has one
abbrev pub told_of : Option CallRecord → Option ℤ
told_of None = None
told_of (Some k) = told_code k.life

module _ (K : ℤ → Type 0) (c : CallName) where
  -- ---- changes of calls

  -- the call's code is one of these
  abbrev pub Told : Looks → Type 0
  Told l = (code : ℤ) → told_of (call_at l c) ≡ Some code → K code

  abbrev ToldIn : Option CallRecord → Type 0
  ToldIn o = (code : ℤ) → told_of o ≡ Some code → K code

  told-by : (l m : Looks) → m.calls ≡ l.calls → Told l → Told m
  told-by l m same t =
      subst (λ (ks : List CallRecord). ToldIn (find (λ k. same_name k.name c) ks)) (sym same) t

  told-map : (change : CallRecord → CallRecord) (o : Option CallRecord)
      → ((k : CallRecord) → o ≡ Some k → Tells K k.life → Tells K (change k).life) → ToldIn o
      → ToldIn (option_map change o)
  told-map change None bears t = t
  told-map change (Some k) bears t = bears k refl t

  told-calls : (change : CallRecord → CallRecord) (l : Looks) → KeepsNames change
      → ((k : CallRecord) → call_at l c ≡ Some k → Tells K k.life → Tells K (change k).life) → Told l
      → Told (on_calls change l)
  told-calls change l names bears t =
      subst ToldIn (sym (call_at-on_calls c change l names)) (told-map change (call_at l c) bears t)

  told-call : (d : CallName) (change : CallRecord → CallRecord) (l : Looks) → KeepsNames change
      → (same_name c d ≡ true → (k : CallRecord) → Tells K k.life → Tells K (change k).life) → Told l
      → Told (on_call d change l)
  told-call d change l names bears t =
      subst ToldIn (sym (call-changed c d change l names)) (by (same_name c d) refl)
    where
      by : (b : Bool) → same_name c d ≡ b → ToldIn (cond b (option_map change (call_at l c)) (call_at l c))
      by true same = told-map change (call_at l c) (λ k is. bears same k) t
      by false other = t

  told-life : (d : CallName) (change : Life → Life) (l : Looks)
      → (same_name c d ≡ true → (x : Life) → Tells K x → Tells K (change x)) → Told l → Told (on_life d change l)
  told-life d change l bears t =
      told-call d (λ k. record k { life = change k.life }) l (λ k. refl) (λ same k here. bears same k.life here) t

  told-looks : (d : CallName) (change : CallLooks → CallLooks) (l : Looks) → Told l → Told (on_looks d change l)
  told-looks d change l t =
      told-call d (λ k. record k { looks = change k.looks }) l (λ k. refl) (λ same k here. here) t

  -- a call that starts tells none
  told-started : (s : Setup) (life : Life) (d : CallName) (l : Looks) → told_code life ≡ None → Told l
      → Told (started s life d l)
  told-started s life d l none t = of (same_name c d) refl
    where
      new : CallRecord
      new = record { name = d; life = life; looks = fresh_call (pace_of s) l.now }

      of : (b : Bool) → same_name c d ≡ b → Told (started s life d l)
      of true same =
          subst ToldIn (sym (call_at-any c new l (sym (name_is c d same)) (call_at l c) refl))
          (λ code is. absurd cc)
      of false other = subst ToldIn (sym (call_at-other c new l other (call_at l c) refl)) t

  -- ---- a message is taken

  -- why an ABORT or a RESPONSE may give the call a code
  abbrev pub MayStop : CallName → Body → Type 0
  MayStop d (bodies.Abort code) =
      ((d.number == 0) ≡ true → same_connection (connection_of c) (connection_of d) ≡ true → K code)
      × ((d.number == 0) ≡ false → same_name c d ≡ true → K code)
  MayStop d (bodies.Response bytes) = same_name c d ≡ true → K RX_PROTOCOL_ERROR
  MayStop d _ = Unit {0}

  -- why a message of a later call may
  abbrev pub MayFollow : CallName → Looks → Type 0
  MayFollow d l =
      same_name c (latest_name l (channel_of d)) ≡ true
      → nat_lt (channel_at l (channel_of d)).number d.number ≡ true → K RX_CALL_DEAD

  -- why a message may, by its answer
  abbrev pub MayTake : Took → CallName → Body → Looks → Type 0
  MayTake tooks.Kept d body l = MayFollow d l
  MayTake tooks.NoSlot d body l = MayFollow d l
  MayTake tooks.Busy d body l = same_name c (latest_name l (channel_of d)) ≡ true → K RX_CALL_DEAD
  MayTake tooks.Stopped d body l = MayStop d body
  MayTake _ d body l = Unit {0}

  told-data : (s : Setup) (got : Took) (d : CallName) (m : Message) (l : Looks) → Told l
      → Told (taken_data s got d m l)
  told-data s got d m l t =
      let at : Looks = taken_at s got d m l in
      let first : Looks = record at { firsts = with_first got d m.seq l.firsts } in
      told-by first (challenged s d first) (challenged-calls s d first)
      (told-looks d (after_taken (node_view s l) got m) l t)

  told-settled : (d : CallName) (l : Looks) → Told l → Told (on_call d settled l)
  told-settled d l t =
      told-call d settled l (λ k. refl)
      (λ same k here. tells_acks K (is_delivered k.looks) k.life here) t

  told-heard : (s : Setup) (d : CallName) (body : Body) (l : Looks) → Told l → Told (taken_heard s d body l)
  told-heard s d (bodies.Ack a) l t =
      told-by (on_call d settled l) (challenged s d (on_call d settled l))
      (challenged-calls s d (on_call d settled l)) (told-settled d l t)
  told-heard s d bodies.AckAll l t = told-settled d l t
  told-heard s d (bodies.Response bytes) l t = t
  told-heard s d (bodies.Challenge bytes) l t = t
  told-heard s d _ l t = t

  coded-name : (test : Bool) (code : ℤ) (k : CallRecord)
      → (cond test (record k { life = after_code code k.life }) k).name ≡ k.name
  coded-name true code k = refl
  coded-name false code k = refl

  coded-tells : (test : Bool) (code : ℤ) (k : CallRecord) → (test ≡ true → K code) → Tells K k.life
      → Tells K (cond test (record k { life = after_code code k.life }) k).life
  coded-tells true code k why t = tells_code K code (why refl) k.life t
  coded-tells false code k why t = t

  own_name : (l : Looks) (k : CallRecord) → call_at l c ≡ Some k → k.name ≡ c
  own_name l k is = name_is k.name c (find_passes (λ j. same_name j.name c) l.calls k is)

  told-stopped_all : (x : Connection) (code : ℤ) (l : Looks)
      → (same_connection (connection_of c) x ≡ true → K code) → Told l → Told (stopped_all x code l)
  told-stopped_all x code l why t =
      told-calls
      (λ k. if same_connection (connection_of k.name) x then record k { life = after_code code k.life } else k) l
      (λ k. coded-name (same_connection (connection_of k.name) x) code k)
      (λ k is here.
      coded-tells (same_connection (connection_of k.name) x) code k
      (λ same. why (subst (λ (n : CallName). same_connection (connection_of n) x ≡ true) (own_name l k is) same)) here)
      t

  told-stopped : (d : CallName) (body : Body) (l : Looks) → MayStop d body → Told l → Told (taken_stopped d body l)
  told-stopped d (bodies.Abort code) l may t = of (d.number == 0) refl
    where
      of : (b : Bool) → (d.number == 0) ≡ b
          → Told (if b then stopped_all (connection_of d) code l else on_life d (after_code code) l)
      of true none = told-stopped_all (connection_of d) code l (may.0 none) t
      of false some = told-life d (after_code code) l (λ same. tells_code K code (may.1 some same)) t
  told-stopped d (bodies.Response bytes) l may t =
      told-life d (after_code RX_PROTOCOL_ERROR) l (λ same. tells_code K RX_PROTOCOL_ERROR (may same)) t
  told-stopped d _ l may t = t

  told-over : (d : CallName) (body : Body) (o : Option CallRecord) (l : Looks) → Told l → Told (taken_over d body o l)
  told-over d body None l t = t
  told-over d body (Some k) l t = t

  told-opened : (s : Setup) (d : CallName) (l : Looks) → MayFollow d l → Told l → Told (opened s d l)
  told-opened s d l may t = of (nat_lt (channel_at l (channel_of d)).number d.number) refl
    where
      of : (b : Bool) → nat_lt (channel_at l (channel_of d)).number d.number ≡ b
          → Told (if b then started_later s d l else l)
      of true above =
          told-started s lives.Waiting d (on_life (latest_name l (channel_of d)) after_later l) refl
          (told-life (latest_name l (channel_of d)) after_later l (λ same. tells_later K (may same above)) t)
      of false low = t

  told-with : (s : Setup) (got : Took) (d : CallName) (m : Message) (l : Looks) → MayTake got d m.body l → Told l
      → Told (taken_with s got d m l)
  told-with s tooks.Kept d m l may t = told-data s tooks.Kept d m (opened s d l) (told-opened s d l may t)
  told-with s tooks.NoSlot d m l may t = told-data s tooks.NoSlot d m (opened s d l) (told-opened s d l may t)
  told-with s tooks.Repeat d m l may t = told-data s tooks.Repeat d m l t
  told-with s tooks.Beyond d m l may t = told-data s tooks.Beyond d m l t
  told-with s tooks.Clash d m l may t = told-data s tooks.Clash d m l t
  told-with s tooks.Heard d m l may t =
      told-heard s d m.body (taken_at s tooks.Heard d m l)
      (told-looks d (after_taken (node_view s l) tooks.Heard m) l t)
  told-with s tooks.Stopped d m l may t = told-stopped d m.body l may t
  told-with s tooks.Busy d m l may t =
      told-life (latest_name l (channel_of d)) (after_code RX_CALL_DEAD) l
      (λ same. tells_code K RX_CALL_DEAD (may same)) t
  told-with s tooks.NoRoom d m l may t = t
  told-with s tooks.Over d m l may t = told-over d m.body (call_at l d) l t
  told-with s tooks.Full d m l may t = t
  told-with s tooks.Old d m l may t = t
  told-with s tooks.Unserved d m l may t = t
  told-with s tooks.Foreign d m l may t = t
  told-with s tooks.Strange d m l may t = t
  told-with s (tooks.Bad bad) d m l may t = t

  -- the same of a datagram
  abbrev pub MayTakeFrom : Setup → Looks → Host → Result Message BadMsg → Took → Type 0
  MayTakeFrom s l from (Err bad) got = Unit {0}
  MayTakeFrom s l from (Ok m) got =
      outer_row s s.kind l from m ≡ None
      → MayTake got (named s from m) m.body (prepared s got (connection_of (named s from m)) l)

  told-taken : (s : Setup) (from : Host) (reading : Result Message BadMsg) (got : Took) (l : Looks)
      → MayTakeFrom s l from reading got → Told l → Told (taken_message s from reading got l)
  told-taken s from (Err bad) got l may t = t
  told-taken s from (Ok m) got l may t = behind (outer_row s s.kind l from m) refl
    where
      d : CallName
      d = named s from m

      behind : (row : Option Took) → outer_row s s.kind l from m ≡ row → Told (taken_behind s row from d m got l)
      behind (Some row) is = told-by l (turned_away row from m l) (calls-turned row from m l) t
      behind None is =
          (let ready : Looks = prepared s got (connection_of d) l in
          told-with s got d m ready (may is) (told-by l ready (calls-prepared s got (connection_of d) l) t))

  -- ---- a message is given

  told-body : (d : CallName) (m : Message) (body : Body) (l : Looks) → Told l → Told (given_body d m body l)
  told-body d m (bodies.Chunk payload) l t = told-looks d (after_piece l.now m.seq) l t
  told-body d m (bodies.Ack a) l t = told-looks d (after_ack_given l.now) l t
  told-body d m (bodies.Abort code) l t = t
  told-body d m bodies.Busy l t = t
  told-body d m (bodies.Challenge bytes) l t = t
  told-body d m (bodies.Response bytes) l t = t
  told-body d m bodies.AckAll l t = t

  told-given : (s : Setup) (got : Option (Host × List ℕ)) (l : Looks) → Told l → Told (given_by s got l)
  told-given s None l t = t
  told-given s (Some (to, bytes)) l t = of (reading_of bytes)
    where
      if-stray : (m : Message) (b : Bool) → Told (if b then record l { strays = drop 1 l.strays }
          else given_body (named s to m) m m.body (counted (connection_of (named s to m)) l))
      if-stray m true = t
      if-stray m false = told-body (named s to m) m m.body (counted (connection_of (named s to m)) l) t

      of : (reading : Result Message BadMsg) → Told (given_message s to reading l)
      of (Err bad) = t
      of (Ok m) = if-stray m (is_stray m m.body)

  silent-name : (test : Bool) (now : ℕ) (k : CallRecord)
      → (cond test (record k { life = after_silence (silence_of now k) k.life }) k).name ≡ k.name
  silent-name true now k = refl
  silent-name false now k = refl

  silent-tells : (test : Bool) (now : ℕ) (k : CallRecord) → (test ≡ true → K RX_CALL_DEAD) → Tells K k.life
      → Tells K (cond test (record k { life = after_silence (silence_of now k) k.life }) k).life
  silent-tells true now k why t = tells_silence K (silence_of now k) (why refl) k.life t
  silent-tells false now k why t = t

  pub told-silenced : (l : Looks)
      → ((k : CallRecord) → call_at l c ≡ Some k → is_silent l.now k ≡ true → K RX_CALL_DEAD) → Told l
      → Told (silenced l)
  told-silenced l why t =
      told-calls (unless_silent l.now) l (λ k. silent-name (is_silent l.now k) l.now k)
      (λ k is here. silent-tells (is_silent l.now k) l.now k (why k is) here) t

  -- ---- calls of the application

  told-finished : (d : CallName) (code : ℤ) (l : Looks) → Told l → Told (finished d code l)
  told-finished d code l t = of (is_zero code)
    where
      of : (b : Bool) → Told (if b then on_looks d after_shut l
          else on_channel (channel_of d) (owing_abort (Some code)) l)
      of true = told-looks d after_shut l t
      of false = t

  told-finish : (d : CallName) (code : ℤ) (got : Result (Unit {0}) ServeRefused) (l : Looks)
      → (got ≡ Ok tt → same_name c d ≡ true → is_zero code ≡ false → K code) → Told l → Told (finish_done d code got l)
  told-finish d code (Ok done) l why t =
      told-life d (after_finish (is_zero code) code) (finished d code l)
      (λ same. tells_finish K (is_zero code) code (why refl same)) (told-finished d code l t)
  told-finish d code (Err (refusals.Gone told)) l why t = told-life d after_gone l (λ same. tells_gone K) t
  told-finish d code (Err refusals.NotOpen) l why t = t
  told-finish d code (Err refusals.Unread) l why t = t

  told-read : (d : CallName) (end : Bool) (bytes : List ℕ) (l : Looks) → Told l
      → Told (on_life d (after_end end) (on_looks d (after_read l.now end bytes) (acknowledged end d l)))
  told-read d end bytes l t =
      told-life d (after_end end) (on_looks d (after_read l.now end bytes) (acknowledged end d l))
      (λ same. tells_end K end)
      (told-looks d (after_read l.now end bytes) (acknowledged end d l) t)

  told-linked : (kind : Kind) (to : Host) (service first cid : ℕ) (l : Looks) → Told l
      → Told (linked kind to service first cid l)
  told-linked (Client host epoch) to service first cid l t = t
  told-linked (Server service nonces) to other first cid l t = t

  -- why an event may give the call a code
  abbrev pub MayGive : Setup → Looks → Event → Type 0
  MayGive s l (events.Finished d code (Ok done)) = same_name c d ≡ true → is_zero code ≡ false → K code
  MayGive s l (events.Cancelled d code (Ok done)) = same_name c d ≡ true → K code
  MayGive s l (events.Polled got) =
      (k : CallRecord) → call_at l c ≡ Some k → is_silent l.now k ≡ true → K RX_CALL_DEAD
  MayGive s l (events.Taken from bytes got) = MayTakeFrom s l from (reading_of bytes) got
  MayGive s l _ = Unit {0}

  -- behind each event the call's code is one of these
  pub told_after : (s : Setup) (l : Looks) (e : Event) → MayGive s l e → Told l → Told (after s e l)
  told_after s l (events.Linked to service first (Ok cid)) may t = told-linked s.kind to service first cid l t
  told_after s l (events.Linked to service first (Err full)) may t = t
  told_after s l (events.Called cid (Ok d)) may t = told-started s lives.Calling d l refl t
  told_after s l (events.Called cid (Err refused)) may t = t
  told_after s l (events.Wrote d offered got bytes) may t = told-looks d (after_write bytes) l t
  told_after s l (events.Shut d (Ok done)) may t = told-looks d after_shut l t
  told_after s l (events.Shut d (Err closed)) may t = t
  told_after s l (events.HasRead d max got bytes) may t = told-read d (is_end got) bytes l t
  told_after s l (events.Ended d got) may t = t
  told_after s l (events.Cancelled d code (Ok done)) may t =
      told-life d (after_cancel code) l (λ same. tells_cancel K code (may same)) t
  told_after s l (events.Cancelled d code (Err closed)) may t = t
  told_after s l (events.Accepted (Some d)) may t = told-life d after_accept l (λ same. tells_accept K) t
  told_after s l (events.Accepted None) may t = t
  told_after s l (events.Finished d code (Ok done)) may t =
      told-finish d code (Ok done) l (λ ok same. may same) t
  told_after s l (events.Finished d code (Err bad)) may t =
      told-finish d code (Err bad) l (λ never same. absurd cc) t
  told_after s l (events.Taken from bytes got) may t = told-taken s from (reading_of bytes) got l may t
  told_after s l (events.Polled got) may t = told-given s got (silenced l) (told-silenced l may t)
  told_after s l (events.Clocked now) may t = t
