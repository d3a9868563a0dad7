-- Each ABORT that a node gives tells a code that an event gave its call.
use Rattle.std.proofs.Common.{◌≡◌, ◌<◌, ◌⊎◌, ◌==◌, ◌||◌, cond, if◌then◌else◌, not, nat_lt, ℕ, ℤ, Bool}
use Rattle.std.proofs.Common.{true, false, List, [], ◌∷◌, Option, Some, None, Result, Ok, Err}
use Rattle.std.proofs.Common.{refl, inl, inr, ◌∙◌, ap, sym, subst, arith, IsSomeAnd}
use Rattle.rx_model.specs.declared.answers.BadMsg.{BadMsg}
use Rattle.rx_model.specs.declared.answers.NotOpen.{NotOpen}
use Rattle.rx_model.specs.declared.answers.ServeRefused.{ServeRefused}
use Rattle.rx_model.specs.declared.answers.Took.{Took}
use Rattle.rx_model.specs.declared.answers.Took.TheVariants as tooks
use Rattle.rx_model.specs.declared.event.Event.{Event}
use Rattle.rx_model.specs.declared.event.Event.TheVariants as events
use Rattle.rx_model.specs.declared.names.CallName.{CallName}
use Rattle.rx_model.specs.declared.names.Host.{Host}
use Rattle.rx_model.specs.declared.wire.TheConstants.{RX_CALL_DEAD, RX_PROTOCOL_ERROR}
use Rattle.rx_model.specs.Body.{Body}
use Rattle.rx_model.specs.Body as bodies
use Rattle.rx_model.specs.Message.{Message}
use Rattle.rx_model.specs.Names.{channel_of, connection_of, same_name}
use Rattle.rx_model.specs.Reading.{reading_of}
use Rattle.rx_model.proofs.NameLaws.{connection_is, name_is, same_number}
use Rattle.rx_rules.specs.After.{enters, is_zero, looks, prepared}
use Rattle.rx_rules.specs.Judging.{else_row, outer_row, took_named, took_of, took_reading}
use Rattle.rx_rules.specs.Life.{is_live}
use Rattle.rx_rules.specs.Looks.{CallRecord, ConnLooks, Looks, call_at, channel_at}
use Rattle.rx_rules.specs.Looks.{is_call, latest_name}
use Rattle.rx_rules.specs.Records.{entered, is_silent, used}
use Rattle.rx_rules.specs.Rules.{Allowed, AllowedAt, Legal, done_where, served_finish}
use Rattle.rx_rules.specs.Setup.{Setup, Kind, Server, Client, named}
use Rattle.rx_rules.proofs.ConnsLaws.{channel_number}
use Rattle.rx_rules.proofs.EveryLaws.{Every}
use Rattle.rx_history.proofs.Client.{StoppedBy}
use Rattle.rx_history.proofs.Differ.{Differ, by_connection}
use Rattle.rx_history.proofs.Dimensions.DimsTaken.{used_dims}
use Rattle.rx_history.proofs.Events.{call-by, calls-prepared}
use Rattle.rx_history.proofs.Fit.FitConnTaken.{may_abort}
use Rattle.rx_history.proofs.Openings.{channel_prepared}
use Rattle.rx_history.proofs.Order.Orderly.{Orderly, orderly_dims}
use Rattle.rx_history.proofs.Order.OrderlyHistory.{orderly_history}
use Rattle.rx_history.proofs.ServerStands.{running-at}
use Rattle.rx_plan.specs.Causes.{Silences}
use Rattle.rx_plan.proofs.ChannelsHold.{IsOwnLatest}
use Rattle.rx_plan.proofs.Aborts.OwedCodes.{ConnOwes, MayOwe, MayOweBy, MayOweFor, Owed, owed_after}
use Rattle.rx_plan.proofs.Aborts.RowsOver.{busy_above, follow_data, latest_number, may_follow}
use Rattle.rx_plan.proofs.Told.Codes.{MayGive, MayStop, MayTake, MayTakeFrom, Told, told_after, told_of}
use Rattle.rx_history.proofs.Laws.TakenLaws.{is-below}
use Rattle.rx_law.proofs.Asks.{data-is}

-- ---- the events that give a call a code

-- data of a later call of its channel came
pub record LaterBy (s : Setup) (l : Looks) (from : Host) (bytes : List ℕ) (c : CallName) (code : ℤ) : Type 0 where
  pub message : Message
  pub payload : List ℕ
  pub reads : reading_of bytes ≡ Ok message
  pub front : outer_row s s.kind l from message ≡ None
  pub chunk : message.body ≡ bodies.Chunk payload
  pub on : channel_of (named s from message) ≡ channel_of c
  pub above : c.number < (named s from message).number

-- a RESPONSE of the call came that isn't right, and stopped it
pub record WrongBy (s : Setup) (l : Looks) (from : Host) (bytes : List ℕ) (got : Took) (c : CallName) (code : ℤ)
    : Type 0 where
  pub code_is : code ≡ RX_PROTOCOL_ERROR
  pub message : Message
  pub text : List ℕ
  pub reads : reading_of bytes ≡ Ok message
  pub front : outer_row s s.kind l from message ≡ None
  pub name : named s from message ≡ c
  pub body : message.body ≡ bodies.Response text
  pub stopped : got ≡ tooks.Stopped

-- its handler finished it, or its application gave it up, with the code; an ABORT told it; a later call or a wrong
-- RESPONSE came; or nothing was heard of it
abbrev pub GivesCode : Setup → Looks → CallName → ℤ → Event → Type 0
GivesCode s l c code (events.Finished d told (Ok done)) = (d ≡ c) × (told ≡ code) × (is_zero told ≡ false)
GivesCode s l c code (events.Cancelled d told (Ok done)) = (d ≡ c) × (told ≡ code)
GivesCode s l c code (events.Polled got) = (code ≡ RX_CALL_DEAD) × Silences l c (events.Polled got)
GivesCode s l c code (events.Taken from bytes got) =
    StoppedBy s l from bytes c code ⊎ (LaterBy s l from bytes c code ⊎ WrongBy s l from bytes got c code)
GivesCode s l c code _ = ⊥

-- one of the events gave it
abbrev pub HasCode : Setup → List Event → CallName → ℤ → Type 0
HasCode s [] c code = ⊥
HasCode s (e ∷ h) c code = GivesCode s (looks s h) c code e ⊎ HasCode s h c code

-- ---- the rules of an event

pub taken_is : (kind : Kind) (s : Setup) (l : Looks) (from : Host) (bytes : List ℕ) (got : Took)
    → AllowedAt kind s l (events.Taken from bytes got) → got ≡ took_of s l from bytes
taken_is (Server service nonces) s l from bytes got allowed = allowed.1
taken_is (Client host epoch) s l from bytes got allowed = allowed.1

-- the row of a message that the rows in front let through
pub named_row : (s : Setup) (l : Looks) (from : Host) (bytes : List ℕ) (got : Took) (m : Message)
    → got ≡ took_of s l from bytes → reading_of bytes ≡ Ok m → outer_row s s.kind l from m ≡ None
    → took_named s l (named s from m) m ≡ got
named_row s l from bytes got m is reads front =
    sym (is ∙ ap (took_reading s l from) reads
    ∙ ap (λ (row : Option Took). else_row row (took_named s l (named s from m) m)) front)

finished_live : (kind : Kind) (s : Setup) (l : Looks) (d : CallName) (code : ℤ) (done : Unit {0})
    → AllowedAt kind s l (events.Finished d code (Ok done)) → is_call (λ k. is_live k.life) (call_at l d) ≡ true
finished_live (Client host epoch) s l d code done allowed = absurd allowed
finished_live (Server service nonces) s l d code done allowed = of (call_at l d) allowed.1
  where
    of : (q : Option CallRecord) → ◌≡◌ {A = Result (Unit {0}) ServeRefused} (Ok done) (served_finish q code)
        → is_call (λ k. is_live k.life) q ≡ true
    of None is = absurd cc
    of (Some k) is = ap is_live (running-at k.life (k.looks.received.ended || not (is_zero code)) done is).0

pub cancelled_live : (kind : Kind) (s : Setup) (l : Looks) (d : CallName) (code : ℤ) (done : Unit {0})
    → AllowedAt kind s l (events.Cancelled d code (Ok done)) → is_call (λ k. is_live k.life) (call_at l d) ≡ true
cancelled_live (Server service nonces) s l d code done allowed = absurd allowed
cancelled_live (Client host epoch) s l d code done allowed =
    own ((channel_at l (channel_of d)).number == d.number) allowed.2
  where
    done-is : (b : Bool) → ◌≡◌ {A = Result (Unit {0}) NotOpen} (Ok done) (done_where b) → b ≡ true
    done-is true is = refl
    done-is false is = absurd cc

    own : (b : Bool) → ◌≡◌ {A = Result (Unit {0}) NotOpen} (Ok done)
        (done_where (is_call (λ k. is_live k.life) (if b then call_at l d else None)))
        → is_call (λ k. is_live k.life) (call_at l d) ≡ true
    own true is = done-is (is_call (λ k. is_live k.life) (call_at l d)) is
    own false is = absurd cc

pub live_latest : (s : Setup) (l : Looks) (d : CallName) → Orderly s l
    → is_call (λ k. is_live k.life) (call_at l d) ≡ true → IsOwnLatest l d
live_latest s l d o lives = record { differ = o.conns.differ; number = (o.latest d lives).number }

-- ---- one event more

-- what calls tell and channels owe is given by these events
pub record Codes (s : Setup) (h : List Event) : Type 0 where
  pub told : (c : CallName) → Told (HasCode s h c) c (looks s h)
  pub owed : Owed (HasCode s h) (looks s h)

pub owed_weaker : (K J : CallName → ℤ → Type 0) (rs : List ConnLooks)
    → ((c : CallName) (code : ℤ) → K c code → J c code) → Every (ConnOwes K) rs → Every (ConnOwes J) rs
owed_weaker K J [] more all = tt
owed_weaker K J (r ∷ rs) more all =
    ((λ n q there code owes. more _ code (all.0 n q there code owes)), owed_weaker K J rs more all.1)

module _ (s : Setup) (h : List Event) (from : Host) (bytes : List ℕ) (got : Took) (m : Message)
    (is : got ≡ took_of s (looks s h) from bytes) (reads : reading_of bytes ≡ Ok m)
    (front : outer_row s s.kind (looks s h) from m ≡ None) where
  abbrev d : CallName
  d = named s from m

  abbrev ready : Looks
  ready = prepared s got (connection_of d) (looks s h)

  abbrev e : Event
  e = events.Taken from bytes got

  -- a wrong RESPONSE
  wrong_gives : (c : CallName) (text : List ℕ) → got ≡ tooks.Stopped → m.body ≡ bodies.Response text → d ≡ c
      → HasCode s (e ∷ h) c RX_PROTOCOL_ERROR
  wrong_gives c text same at name =
      inl (inr (inr (record {
        code_is = refl;
        message = m;
        text = text;
        reads = reads;
        front = front;
        name = name;
        body = at;
        stopped = same;
      })))

  -- a call whose name is the latest of the channel, and a number above
  later_gives : (c : CallName) → may_follow got ≡ true → same_name c (latest_name ready (channel_of d)) ≡ true
      → nat_lt (channel_at ready (channel_of d)).number d.number ≡ true → HasCode s (e ∷ h) c RX_CALL_DEAD
  later_gives c follows same above =
      let name : c ≡ latest_name ready (channel_of d) = name_is c (latest_name ready (channel_of d)) same in
      let number : c.number ≡ (channel_at ready (channel_of d)).number = ap (λ (n : CallName). n.number) name in
      let low = is-below (channel_at ready (channel_of d)).number d.number above in
      let high : nat_lt (channel_at (looks s h) (channel_of d)).number m.number ≡ true =
      ap (λ (n : ℕ). nat_lt n d.number) (sym (channel_prepared s got d (looks s h))) ∙ above in
      let got_data = data-is m.body
      (follow_data s (looks s h) d m got (named_row s (looks s h) from bytes got m is reads front) follows high) in
      inl (inr (inl (record {
        message = m;
        payload = got_data.0;
        reads = reads;
        front = front;
        chunk = got_data.1;
        on = sym (ap channel_of name);
        above = omega arith;
      })))

  -- an ABORT of the call, or of its connection
  told_code_of : (c : CallName) (code : ℤ) → m.body ≡ bodies.Abort code
      → (d ≡ c) ⊎ ((m.number ≡ 0) × (connection_of d ≡ connection_of c)) → HasCode s (e ∷ h) c code
  told_code_of c code at name =
      inl (inl (record { message = m; reads = reads; front = front; body = at; name = name }))

  stop_gives : (c : CallName) → got ≡ tooks.Stopped → (body : Body) → m.body ≡ body
      → MayStop (HasCode s (e ∷ h) c) c d body
  stop_gives c same (bodies.Abort code) at = (
    λ none own. told_code_of c code at (inr (
      same_number d.number 0 none,
      sym (connection_is (connection_of c) (connection_of d) own),
    )),
    λ some own. told_code_of c code at (inl (sym (name_is c d own))),
  )
  stop_gives c same (bodies.Response text) at = λ own.
      wrong_gives c text same at (sym (name_is c d own))
  stop_gives c same (bodies.Chunk payload) at = tt
  stop_gives c same (bodies.Ack a) at = tt
  stop_gives c same bodies.AckAll at = tt
  stop_gives c same bodies.Busy at = tt
  stop_gives c same (bodies.Challenge text) at = tt

  take_gives : (c : CallName) (g : Took) → got ≡ g → MayTake (HasCode s (e ∷ h) c) c g d m.body ready
  take_gives c tooks.Kept same = later_gives c (ap may_follow same)
  take_gives c tooks.NoSlot same = later_gives c (ap may_follow same)
  take_gives c tooks.Busy same = λ own.
      later_gives c (ap may_follow same) own
      (ap (λ (n : ℕ). nat_lt n d.number) (channel_prepared s got d (looks s h))
      ∙ busy_above s (looks s h) d m (named_row s (looks s h) from bytes got m is reads front ∙ same))
  take_gives c tooks.Stopped same = stop_gives c same m.body refl
  take_gives c _ same = tt

  -- a message that makes a channel owe something is of its latest call
  pub ready_here : Legal s h → enters got ≡ false → (channel_at (looks s h) (channel_of d)).number ≡ d.number
      → IsOwnLatest ready d
  ready_here legal out number =
      let l : Looks = looks s h in
      record {
        differ = subst
            (λ (b : Bool). Differ by_connection
            (used (connection_of d) (cond b (entered s (connection_of d) l) l)).conns)
            (sym out)
            (orderly_dims s l (used (connection_of d) l) (used_dims (connection_of d) l)
            (orderly_history s h legal)).conns.differ;
        number = sym (channel_number ready (channel_of d)) ∙ channel_prepared s got d l ∙ number;
      }

  pub ready_latest : Legal s h → may_abort got m.body ≡ true → enters got ≡ false → IsOwnLatest ready d
  ready_latest legal may out =
      ready_here legal out
      (latest_number s (looks s h) d m got refl (named_row s (looks s h) from bytes got m is reads front) may)

  owe_stopped : Legal s h → got ≡ tooks.Stopped → (body : Body) → m.body ≡ body
      → MayOwe (HasCode s (e ∷ h)) tooks.Stopped d body ready
  owe_stopped legal same (bodies.Response text) at = (
    ready_latest legal (ap (λ (g : Took). may_abort g m.body) same ∙ ap (may_abort tooks.Stopped) at)
        (ap enters same),
    wrong_gives d text same at refl,
  )
  owe_stopped legal same _ at = tt

  owe_gives : Legal s h → Codes s h → (g : Took) → got ≡ g → MayOwe (HasCode s (e ∷ h)) g d m.body ready
  owe_gives legal old tooks.Stopped same = owe_stopped legal same m.body refl
  owe_gives legal old tooks.Over same = (
    ready_latest legal (ap (λ (g : Took). may_abort g m.body) same) (ap enters same),
    λ k there code told.
        inr (old.told d code (ap told_of (sym (call-by d (looks s h) ready (calls-prepared s got (connection_of d)
        (looks s h))) ∙ there) ∙ told)),
  )
  owe_gives legal old _ same = tt

-- a datagram that comes
taken_gives : (s : Setup) (h : List Event) (from : Host) (bytes : List ℕ) (got : Took) (reading : Result Message BadMsg)
    → got ≡ took_of s (looks s h) from bytes → reading_of bytes ≡ reading → (c : CallName)
    → MayTakeFrom (HasCode s (events.Taken from bytes got ∷ h) c) c s (looks s h) from reading got
taken_gives s h from bytes got (Err bad) is reads c = tt
taken_gives s h from bytes got (Ok m) is reads c = λ front. take_gives s h from bytes got m is reads front c got refl

taken_owes : (s : Setup) (h : List Event) (from : Host) (bytes : List ℕ) (got : Took) (reading : Result Message BadMsg)
    → got ≡ took_of s (looks s h) from bytes → reading_of bytes ≡ reading → Legal s h → Codes s h
    → MayOweFor (HasCode s (events.Taken from bytes got ∷ h)) s (looks s h) from reading got
taken_owes s h from bytes got (Err bad) is reads legal old = tt
taken_owes s h from bytes got (Ok m) is reads legal old =
    λ front. owe_gives s h from bytes got m is reads front legal old got refl

-- every event
event_gives : (s : Setup) (h : List Event) (e : Event) → Allowed s (looks s h) e → (c : CallName)
    → MayGive (HasCode s (e ∷ h) c) c s (looks s h) e
event_gives s h (events.Finished d code (Ok done)) allowed c = λ same some.
    inl (sym (name_is c d same), refl, some)
event_gives s h (events.Finished d code (Err bad)) allowed c = tt
event_gives s h (events.Cancelled d code (Ok done)) allowed c = λ same. inl (sym (name_is c d same), refl)
event_gives s h (events.Cancelled d code (Err closed)) allowed c = tt
event_gives s h (events.Polled got) allowed c = λ k there silent. inl (
  refl,
  subst (λ (o : Option CallRecord). IsSomeAnd o (λ k. is_silent (looks s h).now k ≡ true)) (sym there) silent,
)
event_gives s h (events.Taken from bytes got) allowed c =
    taken_gives s h from bytes got (reading_of bytes) (taken_is s.kind s (looks s h) from bytes got allowed) refl c
event_gives s h (events.Linked to service first got) allowed c = tt
event_gives s h (events.Called cid got) allowed c = tt
event_gives s h (events.Wrote d offered got bytes) allowed c = tt
event_gives s h (events.Shut d got) allowed c = tt
event_gives s h (events.HasRead d max got bytes) allowed c = tt
event_gives s h (events.Ended d got) allowed c = tt
event_gives s h (events.Accepted got) allowed c = tt
event_gives s h (events.Clocked now) allowed c = tt

event_owes : (s : Setup) (h : List Event) (e : Event) → Allowed s (looks s h) e → Legal s h → Codes s h
    → MayOweBy (HasCode s (e ∷ h)) s (looks s h) e
event_owes s h (events.Finished d code (Ok done)) allowed legal old = (
  live_latest s (looks s h) d (orderly_history s h legal)
      (finished_live s.kind s (looks s h) d code done allowed),
  λ some. inl (refl, refl, some),
)
event_owes s h (events.Finished d code (Err bad)) allowed legal old = tt
event_owes s h (events.Cancelled d code (Ok done)) allowed legal old = (
  live_latest s (looks s h) d (orderly_history s h legal)
      (cancelled_live s.kind s (looks s h) d code done allowed),
  inl (refl, refl),
)
event_owes s h (events.Cancelled d code (Err closed)) allowed legal old = tt
event_owes s h (events.Taken from bytes got) allowed legal old =
    taken_owes s h from bytes got (reading_of bytes) (taken_is s.kind s (looks s h) from bytes got allowed) refl legal
    old
event_owes s h (events.Polled got) allowed legal old = tt
event_owes s h (events.Linked to service first got) allowed legal old = tt
event_owes s h (events.Called cid got) allowed legal old = tt
event_owes s h (events.Wrote d offered got bytes) allowed legal old = tt
event_owes s h (events.Shut d got) allowed legal old = tt
event_owes s h (events.HasRead d max got bytes) allowed legal old = tt
event_owes s h (events.Ended d got) allowed legal old = tt
event_owes s h (events.Accepted got) allowed legal old = tt
event_owes s h (events.Clocked now) allowed legal old = tt

-- so it is behind all of them
pub codes_history : (s : Setup) (h : List Event) → Legal s h → Codes s h
codes_history s [] legal = record { told = λ c code is. absurd cc; owed = tt }
codes_history s (e ∷ h) legal =
    let old = codes_history s h legal.1 in
    record {
      told = λ c.
          told_after (HasCode s (e ∷ h) c) c s (looks s h) e (event_gives s h e legal.0 c)
          (λ code is. inr (old.told c code is));
      owed =
          owed_after (HasCode s (e ∷ h)) s (looks s h) e (event_owes s h e legal.0 legal.1 old)
          (owed_weaker (HasCode s h) (HasCode s (e ∷ h)) (looks s h).conns (λ c code k. inr k) old.owed);
    }
