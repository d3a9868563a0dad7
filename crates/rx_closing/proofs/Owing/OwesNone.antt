-- A node that owes nothing beside what its calls give: no stray abort, and on no channel an ABORT, a BUSY, an ACKALL, a
-- CHALLENGE or a RESPONSE; and which events leave it so, where nodes challenge none.
use Rattle.std.proofs.Common.{◌≡◌, ◌&&◌, ℕ, ℤ, if◌then◌else◌, drop, Bool, true, false, List, [], Option, Some, None}
use Rattle.std.proofs.Common.{Result, Ok, Err, refl, ap, sym, subst, ◌∙◌}
use Rattle.rx_model.specs.declared.answers.BadMsg.{BadMsg}
use Rattle.rx_model.specs.declared.answers.ServeRefused.TheVariants as refusals
use Rattle.rx_model.specs.declared.answers.Took.{Took}
use Rattle.rx_model.specs.declared.answers.Took.TheVariants as tooks
use Rattle.rx_model.specs.declared.event.Event.{Event}
use Rattle.rx_model.specs.declared.event.Event.TheVariants as events
use Rattle.rx_model.specs.declared.names.CallName.{CallName}
use Rattle.rx_model.specs.declared.names.Host.{Host}
use Rattle.rx_model.specs.Body.{Body}
use Rattle.rx_model.specs.Body as bodies
use Rattle.rx_model.specs.Message.{Message}
use Rattle.rx_model.specs.Names.{Channel, channel_of, connection_of}
use Rattle.rx_model.specs.Reading.{reading_of}
use Rattle.rx_model.specs.Strays.{is_stray}
use Rattle.rx_rules.specs.After.{after, counted, given_body, given_message, is_end, is_ok_end, is_zero}
use Rattle.rx_rules.specs.After.{linked, owing_abort, owing_ackall, owing_again, prepared, served_code, taken_behind}
use Rattle.rx_rules.specs.After.{taken_message, taken_unserved, told_code, turned_away}
use Rattle.rx_rules.specs.CallLooks.{after_shut}
use Rattle.rx_rules.specs.Judging.{outer_row}
use Rattle.rx_rules.specs.Life.{Life, is_calling}
use Rattle.rx_rules.specs.Looks.{CallRecord, ChannelLooks, ConnLooks, Looks, call_at, channel_at, fresh_channel}
use Rattle.rx_rules.specs.Looks.{is_call, on_channel, on_looks}
use Rattle.rx_rules.specs.Records.{silenced}
use Rattle.rx_rules.specs.Setup.{Setup, named}
use Rattle.rx_rules.proofs.EveryLaws.{Every}
use Rattle.rx_history.proofs.Differ.{every_found}
use Rattle.rx_history.proofs.Laws.ForgotLaws.{with-strays}
use Rattle.rx_history.proofs.OwnChannels.{channel_has}
use Rattle.rx_history.proofs.StraysStay.{strays-prepared}
use Rattle.rx_closing.proofs.Owing.ChannelsStay.{GoesSo, Hold, IsMute, Lasts, ReadsSo, StopsSo, TakesSo, hold_after}
use Rattle.rx_law.proofs.World.{strays-given, strays-linked}

-- ---- nothing is owed

-- a channel that owes nothing
pub record IsQuiet (q : ChannelLooks) : Type 0 where
  pub abort : q.owed_abort ≡ None
  pub busy : q.owed_busy ≡ None
  pub ackall : q.owed_ackall ≡ false
  pub challenge : q.owed_challenge ≡ false
  pub response : q.owed_response ≡ None

pub fresh_quiet : (n : ℕ) → IsQuiet (fresh_channel n)
fresh_quiet n = record { abort = refl; busy = refl; ackall = refl; challenge = refl; response = refl }

pub quiet_lasts : Lasts IsQuiet
quiet_lasts =
    record {
      fresh = fresh_quiet;
      no_abort = λ q here. record {
        abort = refl;
        busy = here.busy;
        ackall = here.ackall;
        challenge = here.challenge;
        response = here.response;
      };
      no_busy = λ q here. record {
        abort = here.abort;
        busy = refl;
        ackall = here.ackall;
        challenge = here.challenge;
        response = here.response;
      };
      no_ackall = λ q here. record {
        abort = here.abort;
        busy = here.busy;
        ackall = refl;
        challenge = here.challenge;
        response = here.response;
      };
      no_challenge = λ q here. record {
        abort = here.abort;
        busy = here.busy;
        ackall = here.ackall;
        challenge = refl;
        response = here.response;
      };
      no_response = λ q here. record {
        abort = here.abort;
        busy = here.busy;
        ackall = here.ackall;
        challenge = here.challenge;
        response = refl;
      };
    }

-- each channel of these connections is one
abbrev pub AreQuiet : List ConnLooks → Type 0
AreQuiet rs = Hold IsQuiet quiet_lasts rs

-- a node that owes nothing
pub record OwesNone (l : Looks) : Type 0 where
  pub strays : l.strays ≡ []
  pub channels : AreQuiet l.conns

-- so each channel that is looked for owes nothing
pub none_owed : (l : Looks) (ch : Channel) → OwesNone l → IsQuiet (channel_at l ch)
none_owed l ch o =
    channel_has IsQuiet l ch (fresh_quiet 0)
    (λ r found. every_found (λ (q : ConnLooks). Every IsQuiet q.channels) _ l.conns r o.channels found)

-- ---- what a message may tell

-- what a call's life has a message for it told again: nothing
abbrev pub TellsNone : Body → Life → Type 0
TellsNone (bodies.Chunk payload) life = (told_code life ≡ None) × (is_ok_end life ≡ false)
TellsNone (bodies.Ack a) life = served_code life ≡ None
TellsNone _ life = Unit {0}

quiet_again : (body : Body) (life : Life) (q : ChannelLooks) → TellsNone body life → IsQuiet q
    → IsQuiet (owing_again body life q)
quiet_again (bodies.Chunk payload) life q none here =
    subst (λ (b : Bool). IsQuiet (owing_ackall b (owing_abort (told_code life) q))) (sym none.1)
    (subst (λ (o : Option ℤ). IsQuiet (owing_abort o q)) (sym none.0) here)
quiet_again (bodies.Ack a) life q none here =
    subst (λ (o : Option ℤ). IsQuiet (owing_abort o q)) (sym none) here
quiet_again _ life q none here = here

-- an ABORT alone stops quietly
abbrev pub StopsQuietly : Body → Type 0
StopsQuietly (bodies.Response bytes) = ⊥
StopsQuietly _ = Unit {0}

-- an answer that makes no channel owe anything
abbrev pub TakesQuietly : Took → CallName → Body → Looks → Type 0
TakesQuietly tooks.Busy d body l = ⊥
TakesQuietly tooks.NoRoom d body l = ⊥
TakesQuietly tooks.Over d body l = (k : CallRecord) → call_at l d ≡ Some k → TellsNone body k.life
TakesQuietly tooks.Stopped d body l = StopsQuietly body
TakesQuietly _ d body l = Unit {0}

-- a row in front that leaves no stray abort
abbrev pub TurnsQuietly : Took → Body → Type 0
TurnsQuietly tooks.Unserved (bodies.Chunk payload) = ⊥
TurnsQuietly row body = Unit {0}

-- ---- strays

turned_strays : (row : Took) (from : Host) (m : Message) (l : Looks) → TurnsQuietly row m.body → l.strays ≡ []
    → (turned_away row from m l).strays ≡ []
turned_strays tooks.Unserved from m l may none = of m.body may
  where
    of : (body : Body) → TurnsQuietly tooks.Unserved body → (taken_unserved from m body l).strays ≡ []
    of (bodies.Chunk payload) may = absurd may
    of _ may = none
turned_strays row from m l may none = none

body_strays : (d : CallName) (m : Message) (body : Body) (l : Looks) → (given_body d m body l).strays ≡ l.strays
body_strays d m (bodies.Chunk payload) l = refl
body_strays d m (bodies.Ack a) l = refl
body_strays d m (bodies.Abort code) l = refl
body_strays d m bodies.Busy l = refl
body_strays d m (bodies.Challenge bytes) l = refl
body_strays d m (bodies.Response bytes) l = refl
body_strays d m bodies.AckAll l = refl

given_strays : (s : Setup) (to : Host) (reading : Result Message BadMsg) (l : Looks) → l.strays ≡ []
    → (given_message s to reading l).strays ≡ []
given_strays s to (Err bad) l none = none
given_strays s to (Ok m) l none = of (is_stray m m.body)
  where
    d : CallName
    d = named s to m

    of : (b : Bool)
        → (if b then record l { strays = drop 1 l.strays }
        else given_body d m m.body (counted (connection_of d) l)).strays ≡ []
    of true = ap (drop 1) none
    of false = body_strays d m m.body (counted (connection_of d) l) ∙ none

finished_strays : (b : Bool) (d : CallName) (code : ℤ) (l : Looks)
    → (if b then on_looks d after_shut l else on_channel (channel_of d) (owing_abort (Some code)) l).strays ≡ l.strays
finished_strays true d code l = refl
finished_strays false d code l = refl

-- ---- each event

module _ (s : Setup) (mute : IsMute s.class) where
  -- a message whose rows leave all quiet
  pub record IsHarmless (l : Looks) (from : Host) (m : Message) (got : Took) : Type 0 where
    pub turns : (row : Took) → outer_row s s.kind l from m ≡ Some row → TurnsQuietly row m.body
    pub takes :
        outer_row s s.kind l from m ≡ None
        → TakesQuietly got (named s from m) m.body (prepared s got (connection_of (named s from m)) l)

  abbrev pub ReadsQuietly : Looks → Host → Result Message BadMsg → Took → Type 0
  ReadsQuietly l from (Err bad) got = Unit {0}
  ReadsQuietly l from (Ok m) got = IsHarmless l from m got

  -- an event that makes nothing owed beside what calls give
  abbrev pub GoesQuietly : Looks → Event → Type 0
  GoesQuietly l (events.Taken from bytes got) = ReadsQuietly l from (reading_of bytes) got
  GoesQuietly l (events.HasRead c max got bytes) =
      (is_end got && is_call (λ k. is_calling k.life) (call_at l c)) ≡ false
  GoesQuietly l (events.Finished c code (Ok done)) = is_zero code ≡ true
  GoesQuietly l (events.Cancelled c code (Ok done)) = ⊥
  GoesQuietly l _ = Unit {0}

  -- ---- strays behind it

  taken_strays : (from : Host) (reading : Result Message BadMsg) (got : Took) (l : Looks)
      → ReadsQuietly l from reading got → l.strays ≡ [] → (taken_message s from reading got l).strays ≡ []
  taken_strays from (Err bad) got l may none = none
  taken_strays from (Ok m) got l may none = of (outer_row s s.kind l from m) refl
    where
      d : CallName
      d = named s from m

      of : (row : Option Took) → outer_row s s.kind l from m ≡ row → (taken_behind s row from d m got l).strays ≡ []
      of (Some row) is = turned_strays row from m l (may.turns row is) none
      of None is =
          with-strays s got d m (prepared s got (connection_of d) l) ∙ strays-prepared s got (connection_of d) l ∙ none

  strays_after : (l : Looks) (e : Event) → GoesQuietly l e → l.strays ≡ [] → (after s e l).strays ≡ []
  strays_after l (events.Linked to service first (Ok cid)) may none = strays-linked s.kind to service first cid l ∙ none
  strays_after l (events.Linked to service first (Err full)) may none = none
  strays_after l (events.Called cid (Ok c)) may none = none
  strays_after l (events.Called cid (Err refused)) may none = none
  strays_after l (events.Wrote c offered got bytes) may none = none
  strays_after l (events.Shut c (Ok done)) may none = none
  strays_after l (events.Shut c (Err closed)) may none = none
  strays_after l (events.HasRead c max got bytes) may none = none
  strays_after l (events.Ended c got) may none = none
  strays_after l (events.Cancelled c code (Ok done)) may none = none
  strays_after l (events.Cancelled c code (Err closed)) may none = none
  strays_after l (events.Accepted (Some c)) may none = none
  strays_after l (events.Accepted None) may none = none
  strays_after l (events.Finished c code (Ok done)) may none = finished_strays (is_zero code) c code l ∙ none
  strays_after l (events.Finished c code (Err (refusals.Gone told))) may none = none
  strays_after l (events.Finished c code (Err refusals.NotOpen)) may none = none
  strays_after l (events.Finished c code (Err refusals.Unread)) may none = none
  strays_after l (events.Taken from bytes got) may none = taken_strays from (reading_of bytes) got l may none
  strays_after l (events.Polled got) may none = strays-given s got (silenced l) none
  strays_after l (events.Clocked now) may none = none

  -- ---- channels behind it

  stops_so : (body : Body) → StopsQuietly body → StopsSo IsQuiet quiet_lasts s mute body
  stops_so (bodies.Response bytes) may = absurd may
  stops_so _ may = tt

  takes_so : (got : Took) (d : CallName) (body : Body) (l : Looks) → TakesQuietly got d body l
      → TakesSo IsQuiet quiet_lasts s mute got d body l
  takes_so tooks.Busy d body l may = absurd may
  takes_so tooks.NoRoom d body l may = absurd may
  takes_so tooks.Over d body l may = λ k there q here. quiet_again body k.life q (may k there) here
  takes_so tooks.Stopped d body l may = stops_so body may
  takes_so _ d body l may = tt

  reads_so : (from : Host) (reading : Result Message BadMsg) (got : Took) (l : Looks) → ReadsQuietly l from reading got
      → ReadsSo IsQuiet quiet_lasts s mute l from reading got
  reads_so from (Err bad) got l may = tt
  reads_so from (Ok m) got l may = λ front.
      takes_so got (named s from m) m.body (prepared s got (connection_of (named s from m)) l) (may.takes front)

  ackall_so : (b : Bool) → b ≡ false → (q : ChannelLooks) → IsQuiet q → IsQuiet (owing_ackall b q)
  ackall_so true never q here = absurd cc
  ackall_so false never q here = here

  goes_so : (l : Looks) (e : Event) → GoesQuietly l e → GoesSo IsQuiet quiet_lasts s mute l e
  goes_so l (events.Taken from bytes got) may = reads_so from (reading_of bytes) got l may
  goes_so l (events.HasRead c max got bytes) may =
      ackall_so (is_end got && is_call (λ k. is_calling k.life) (call_at l c)) may
  goes_so l (events.Finished c code (Ok done)) may = λ some. absurd (let no : true ≡ false = sym may ∙ some in cc)
  goes_so l (events.Finished c code (Err refused)) may = tt
  goes_so l (events.Cancelled c code (Ok done)) may = absurd may
  goes_so l (events.Cancelled c code (Err closed)) may = tt
  goes_so l _ may = tt

  -- such an event leaves a node that owes nothing
  pub owes_none_after : (l : Looks) (e : Event) → GoesQuietly l e → OwesNone l → OwesNone (after s e l)
  owes_none_after l e may o =
      record {
        strays = strays_after l e may o.strays;
        channels = hold_after IsQuiet quiet_lasts s mute l e (goes_so l e may) o.channels;
      }
