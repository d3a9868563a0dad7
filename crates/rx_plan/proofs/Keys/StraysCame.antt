-- Each stray abort that a node owes is owed to DATA of another service or class that it took.
use Rattle.std.proofs.Common.{Bool, Err, List, None, Ok, Option, Result, Some, [], ap, drop, false, if◌then◌else◌}
use Rattle.std.proofs.Common.{length, refl, subst, suc, sym, true, zero, ℕ, ℤ, ◌++◌, ◌-◌, ◌∙◌, ◌∷◌, ◌≡◌}
use Rattle.rx_model.specs.declared.answers.BadMsg.{BadMsg}
use Rattle.rx_model.specs.declared.answers.ServeRefused.{ServeRefused}
use Rattle.rx_model.specs.declared.answers.ServeRefused.TheVariants as refusals
use Rattle.rx_model.specs.declared.answers.Took.{Took}
use Rattle.rx_model.specs.declared.answers.Took.TheVariants as tooks
use Rattle.rx_model.specs.declared.event.Event.{Event}
use Rattle.rx_model.specs.declared.event.Event.TheVariants as events
use Rattle.rx_model.specs.declared.names.CallName.{CallName}
use Rattle.rx_model.specs.declared.names.Host.{Host}
use Rattle.rx_model.specs.declared.stray.Stray.{Stray}
use Rattle.rx_model.specs.declared.wire.TheConstants.{STRAYS}
use Rattle.rx_model.specs.Body.{Body}
use Rattle.rx_model.specs.Body as bodies
use Rattle.rx_model.specs.Message.{Message}
use Rattle.rx_model.specs.Names.{channel_of, connection_of}
use Rattle.rx_model.specs.Reading.{reading_of}
use Rattle.rx_model.specs.Strays.{is_stray, stray_of}
use Rattle.rx_rules.specs.After.{after, counted, finish_done, given_body, given_by, given_message, is_zero, linked}
use Rattle.rx_rules.specs.After.{looks, owing_abort, prepared, taken_behind, taken_message, taken_unserved}
use Rattle.rx_rules.specs.After.{turned_away}
use Rattle.rx_rules.specs.CallLooks.{after_shut}
use Rattle.rx_rules.specs.Judging.{outer_row}
use Rattle.rx_rules.specs.Looks.{Looks, on_channel, on_looks}
use Rattle.rx_rules.specs.Records.{silenced}
use Rattle.rx_rules.specs.Setup.{Client, Kind, Server, Setup, named}
use Rattle.rx_rules.proofs.EveryLaws.{Every, every-append}
use Rattle.rx_history.proofs.Laws.ForgotLaws.{with-strays}
use Rattle.rx_history.proofs.StraysStay.{strays-prepared}

-- the DATA of another service or class that owes it
pub record CameStray (s : Setup) (h : List Event) (x : Stray) : Type 0 where
  pub later : List Event
  pub from : Host
  pub bytes : List ℕ
  pub got : Took
  pub before : List Event
  pub is : h ≡ later ++ events.Taken from bytes got ∷ before
  pub message : Message
  pub payload : List ℕ
  pub reads : reading_of bytes ≡ Ok message
  pub chunk : message.body ≡ bodies.Chunk payload
  pub row : outer_row s s.kind (looks s before) from message ≡ Some tooks.Unserved
  pub stray : x ≡ stray_of from message

-- behind one more event
pub stray_later : (s : Setup) (e : Event) (h : List Event) (x : Stray) → CameStray s h x → CameStray s (e ∷ h) x
stray_later s e h x c =
    record {
      later = e ∷ c.later;
      from = c.from;
      bytes = c.bytes;
      got = c.got;
      before = c.before;
      is = ap (λ (es : List Event). e ∷ es) c.is;
      message = c.message;
      payload = c.payload;
      reads = c.reads;
      chunk = c.chunk;
      row = c.row;
      stray = c.stray;
    }

every_later : (s : Setup) (e : Event) (h : List Event) (xs : List Stray) → Every (CameStray s h) xs
    → Every (CameStray s (e ∷ h)) xs
every_later s e h [] all = tt
every_later s e h (x ∷ xs) all = (stray_later s e h x all.0, every_later s e h xs all.1)

module _ (Came : Stray → Type 0) where
  every-drop : (n : ℕ) (xs : List Stray) → Every Came xs → Every Came (drop n xs)
  every-drop zero xs all = all
  every-drop (suc n) [] all = tt
  every-drop (suc n) (x ∷ xs) all = every-drop n xs all.1

  -- each of those that are owed
  abbrev AllCame : Looks → Type 0
  AllCame l = Every Came l.strays

  -- why one more may be owed
  abbrev MayStray : Setup → Looks → Host → Result Message BadMsg → Type 0
  MayStray s l from (Err bad) = Unit {0}
  MayStray s l from (Ok m) =
      (payload : List ℕ) → m.body ≡ bodies.Chunk payload → outer_row s s.kind l from m ≡ Some tooks.Unserved
      → Came (stray_of from m)

  turned : (row : Took) (from : Host) (m : Message) (l : Looks)
      → ((payload : List ℕ) → m.body ≡ bodies.Chunk payload → row ≡ tooks.Unserved → Came (stray_of from m))
      → AllCame l → AllCame (turned_away row from m l)
  turned tooks.Unserved from m l may all = of m.body refl
    where
      more : List Stray
      more = l.strays ++ stray_of from m ∷ []

      of : (body : Body) → m.body ≡ body → AllCame (taken_unserved from m body l)
      of (bodies.Chunk payload) is =
          every-drop (length more - STRAYS) more
          (every-append Came l.strays (stray_of from m ∷ []) all (may payload is refl, tt))
      of _ is = all
  turned _ from m l may all = all

  taken : (s : Setup) (from : Host) (reading : Result Message BadMsg) (got : Took) (l : Looks)
      → MayStray s l from reading → AllCame l → AllCame (taken_message s from reading got l)
  taken s from (Err bad) got l may all = all
  taken s from (Ok m) got l may all = of (outer_row s s.kind l from m) refl
    where
      d : CallName
      d = named s from m

      of : (row : Option Took) → outer_row s s.kind l from m ≡ row → AllCame (taken_behind s row from d m got l)
      of (Some row) is =
          turned row from m l (λ payload chunk same. may payload chunk (is ∙ ap (λ (t : Took). Some t) same)) all
      of None is =
          subst (λ (xs : List Stray). Every Came xs)
          (sym (with-strays s got d m (prepared s got (connection_of d) l) ∙ strays-prepared s got (connection_of d) l))
          all

  body : (d : CallName) (m : Message) (b : Body) (l : Looks) → AllCame l → AllCame (given_body d m b l)
  body d m (bodies.Chunk payload) l all = all
  body d m (bodies.Ack a) l all = all
  body d m (bodies.Abort code) l all = all
  body d m bodies.Busy l all = all
  body d m (bodies.Challenge bytes) l all = all
  body d m (bodies.Response bytes) l all = all
  body d m bodies.AckAll l all = all

  polled : (s : Setup) (got : Option (Host × List ℕ)) (l : Looks) → AllCame l → AllCame (given_by s got l)
  polled s None l all = all
  polled s (Some (to, bytes)) l all = of (reading_of bytes)
    where
      by : (b : Bool) (m : Message) → AllCame
          (if b then record l { strays = drop 1 l.strays } else given_body (named s to m) m m.body
          (counted (connection_of (named s to m)) l))
      by true m = every-drop 1 l.strays all
      by false m = body (named s to m) m m.body (counted (connection_of (named s to m)) l) all

      of : (reading : Result Message BadMsg) → AllCame (given_message s to reading l)
      of (Err bad) = all
      of (Ok m) = by (is_stray m m.body) m

  finish : (d : CallName) (code : ℤ) (got : Result (Unit {0}) ServeRefused) (l : Looks) → AllCame l
      → AllCame (finish_done d code got l)
  finish d code (Ok done) l all = of (is_zero code)
    where
      of : (b : Bool) → AllCame
          (if b then on_looks d after_shut l else on_channel (channel_of d) (owing_abort (Some code)) l)
      of true = all
      of false = all
  finish d code (Err (refusals.Gone told)) l all = all
  finish d code (Err refusals.NotOpen) l all = all
  finish d code (Err refusals.Unread) l all = all

  linked_came : (kind : Kind) (to : Host) (service first cid : ℕ) (l : Looks) → AllCame l
      → AllCame (linked kind to service first cid l)
  linked_came (Client host epoch) to service first cid l all = all
  linked_came (Server service nonces) to other first cid l all = all

  -- why an event may make one more owed
  abbrev MayStrayBy : Setup → Looks → Event → Type 0
  MayStrayBy s l (events.Taken from bytes got) = MayStray s l from (reading_of bytes)
  MayStrayBy s l _ = Unit {0}

  came_after : (s : Setup) (l : Looks) (e : Event) → MayStrayBy s l e → AllCame l → AllCame (after s e l)
  came_after s l (events.Linked to service first (Ok cid)) may all = linked_came s.kind to service first cid l all
  came_after s l (events.Linked to service first (Err full)) may all = all
  came_after s l (events.Called cid (Ok c)) may all = all
  came_after s l (events.Called cid (Err refused)) may all = all
  came_after s l (events.Wrote c offered got bytes) may all = all
  came_after s l (events.Shut c (Ok done)) may all = all
  came_after s l (events.Shut c (Err closed)) may all = all
  came_after s l (events.HasRead c max got bytes) may all = all
  came_after s l (events.Ended c got) may all = all
  came_after s l (events.Cancelled c code (Ok done)) may all = all
  came_after s l (events.Cancelled c code (Err closed)) may all = all
  came_after s l (events.Accepted (Some c)) may all = all
  came_after s l (events.Accepted None) may all = all
  came_after s l (events.Finished c code got) may all = finish c code got l all
  came_after s l (events.Taken from bytes got) may all = taken s from (reading_of bytes) got l may all
  came_after s l (events.Polled got) may all = polled s got (silenced l) all
  came_after s l (events.Clocked now) may all = all

-- ---- a history

may_stray : (s : Setup) (h : List Event) (from : Host) (bytes : List ℕ) (got : Took) (reading : Result Message BadMsg)
    → reading_of bytes ≡ reading
    → MayStray (CameStray s (events.Taken from bytes got ∷ h)) s (looks s h) from reading
may_stray s h from bytes got (Err bad) reads = tt
may_stray s h from bytes got (Ok m) reads = λ payload chunk row.
    record {
      later = [];
      from = from;
      bytes = bytes;
      got = got;
      before = h;
      is = refl;
      message = m;
      payload = payload;
      reads = reads;
      chunk = chunk;
      row = row;
      stray = refl;
    }

event_strays : (s : Setup) (h : List Event) (e : Event) → MayStrayBy (CameStray s (e ∷ h)) s (looks s h) e
event_strays s h (events.Taken from bytes got) = may_stray s h from bytes got (reading_of bytes) refl
event_strays s h (events.Linked to service first got) = tt
event_strays s h (events.Called cid got) = tt
event_strays s h (events.Wrote c offered got bytes) = tt
event_strays s h (events.Shut c got) = tt
event_strays s h (events.HasRead c max got bytes) = tt
event_strays s h (events.Ended c got) = tt
event_strays s h (events.Cancelled c code got) = tt
event_strays s h (events.Accepted got) = tt
event_strays s h (events.Finished c code got) = tt
event_strays s h (events.Polled got) = tt
event_strays s h (events.Clocked now) = tt

-- so it is behind every event
pub strays_came : (s : Setup) (h : List Event) → Every (CameStray s h) (looks s h).strays
strays_came s [] = tt
strays_came s (e ∷ h) =
    came_after (CameStray s (e ∷ h)) s (looks s h) e (event_strays s h e)
    (every_later s e h (looks s h).strays (strays_came s h))
