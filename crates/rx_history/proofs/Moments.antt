-- The moment of a node's look-ups is that of its last clock event.
use Rattle.std.proofs.Common.{◌≡◌, ◌==◌, ℕ, ℤ, cond, if◌then◌else◌, is_some, Bool, true, false, List, [], ◌∷◌, drop}
use Rattle.std.proofs.Common.{Option, Some, None, Result, Ok, Err, refl, ◌∙◌, ap}
use Rattle.rx_model.specs.declared.answers.BadMsg.{BadMsg}
use Rattle.rx_model.specs.declared.answers.ServeRefused.{ServeRefused}
use Rattle.rx_model.specs.declared.answers.ServeRefused.TheVariants as refusals
use Rattle.rx_model.specs.declared.answers.Took.{Took}
use Rattle.rx_model.specs.declared.answers.Took.TheVariants as tooks
use Rattle.rx_model.specs.declared.event.Event.{Event}
use Rattle.rx_model.specs.declared.event.Event.TheVariants as events
use Rattle.rx_model.specs.declared.event.Noted.{Noted}
use Rattle.rx_model.specs.declared.names.CallName.{CallName}
use Rattle.rx_model.specs.declared.names.Host.{Host}
use Rattle.rx_rules.specs.After.{after, counted, enters, finish_done, given_body, given_by, given_message, is_zero}
use Rattle.rx_rules.specs.After.{linked}
use Rattle.rx_rules.specs.After.{looks, owing_abort, prepared, taken_behind, taken_message, taken_unserved, turned_away}
use Rattle.rx_model.specs.Body.{Body}
use Rattle.rx_model.specs.Body as bodies
use Rattle.rx_rules.specs.CallLooks.{after_shut}
use Rattle.rx_rules.specs.Judging.{outer_row}
use Rattle.rx_rules.specs.Looks.{ConnLooks, Looks, conn_at, on_channel, on_looks}
use Rattle.rx_model.specs.Message.{Message}
use Rattle.rx_model.specs.Names.{Connection, channel_of, connection_of}
use Rattle.rx_model.specs.Reading.{reading_of}
use Rattle.rx_rules.specs.Records.{entered, fresh_conn, idle_conn, is_full, placed, silenced, with_conn}
use Rattle.rx_rules.specs.Setup.{Setup, Kind, Server, Client, named}
use Rattle.rx_history.specs.Sides.{moment, side, with_clock}
use Rattle.rx_model.specs.Strays.{is_stray}
use Rattle.rx_history.proofs.Laws.ForgotLaws.{with-now}

-- a place taken leaves the moment
pub now-placed : (new : ConnLooks) (o : Option ConnLooks) (l : Looks) → (placed new o l).now ≡ l.now
now-placed new None l = refl
now-placed new (Some old) l = refl

pub now-with_conn : (s : Setup) (kind : Kind) (x : Connection) (l : Looks) → (with_conn s kind x l).now ≡ l.now
now-with_conn s (Server service nonces) x l =
    now-placed (fresh_conn x x.host service 1 l) (if is_full s l then idle_conn l else None) l
now-with_conn s (Client host epoch) x l = refl

-- the entering and the use of a connection leave the moment
pub now-prepared : (s : Setup) (got : Took) (x : Connection) (l : Looks) → (prepared s got x l).now ≡ l.now
now-prepared s got x l = of (enters got)
  where
    entering : (b : Bool) → (if b then l else with_conn s s.kind x l).now ≡ l.now
    entering true = refl
    entering false = now-with_conn s s.kind x l

    of : (b : Bool) → (if b then entered s x l else l).now ≡ l.now
    of true = entering (is_some (conn_at l x))
    of false = refl

-- so does a message that a row in front answers
pub now-turned : (row : Took) (from : Host) (m : Message) (l : Looks) → (turned_away row from m l).now ≡ l.now
now-turned tooks.Unserved from m l = of m.body
  where
    of : (body : Body) → (taken_unserved from m body l).now ≡ l.now
    of (bodies.Chunk payload) = refl
    of _ = refl
now-turned _ from m l = refl

now-message : (s : Setup) (from : Host) (reading : Result Message BadMsg) (got : Took) (l : Looks)
    → (taken_message s from reading got l).now ≡ l.now
now-message s from (Err bad) got l = refl
now-message s from (Ok m) got l = of (outer_row s s.kind l from m)
  where
    d : CallName
    d = named s from m

    of : (row : Option Took) → (taken_behind s row from d m got l).now ≡ l.now
    of (Some row) = now-turned row from m l
    of None = with-now s got d m (prepared s got (connection_of d) l) ∙ now-prepared s got (connection_of d) l

-- and a datagram that is given
pub now-given : (s : Setup) (got : Option (Host × List ℕ)) (l : Looks) → (given_by s got l).now ≡ l.now
now-given s None l = refl
now-given s (Some (to, bytes)) l = of (reading_of bytes)
  where
    stray : (m : Message) (b : Bool) (body : Body)
        → (if b then record l { strays = drop 1 l.strays } else given_body (named s to m) m body
        (counted (connection_of (named s to m)) l)).now ≡ l.now
    stray m true body = refl
    stray m false (bodies.Chunk payload) = refl
    stray m false (bodies.Ack a) = refl
    stray m false (bodies.Abort code) = refl
    stray m false bodies.Busy = refl
    stray m false (bodies.Challenge given) = refl
    stray m false (bodies.Response given) = refl
    stray m false bodies.AckAll = refl

    of : (reading : Result Message BadMsg) → (given_message s to reading l).now ≡ l.now
    of (Err bad) = refl
    of (Ok m) = stray m (is_stray m m.body) m.body

-- and a finish
pub now-finish : (d : CallName) (code : ℤ) (got : Result (Unit {0}) ServeRefused) (l : Looks)
    → (finish_done d code got l).now ≡ l.now
now-finish d code (Ok done) l = of (is_zero code)
  where
    of : (b : Bool) → (if b then on_looks d after_shut l else on_channel (channel_of d)
        (owing_abort (Some code)) l).now ≡ l.now
    of true = refl
    of false = refl
now-finish d code (Err (refusals.Gone told)) l = refl
now-finish d code (Err refusals.NotOpen) l = refl
now-finish d code (Err refusals.Unread) l = refl

now-linked : (kind : Kind) (to : Host) (service first cid : ℕ) (l : Looks) → (linked kind to service first cid l).now
    ≡ l.now
now-linked (Client host epoch) to service first cid l = refl
now-linked (Server service nonces) to other first cid l = refl

-- the moment behind an event
pub now-after : (s : Setup) (l : Looks) (e : Event) → (after s e l).now ≡ with_clock e l.now
now-after s l (events.Linked to service first (Ok cid)) = now-linked s.kind to service first cid l
now-after s l (events.Linked to service first (Err full)) = refl
now-after s l (events.Called cid (Ok d)) = refl
now-after s l (events.Called cid (Err refused)) = refl
now-after s l (events.Wrote d offered got bytes) = refl
now-after s l (events.Shut d (Ok done)) = refl
now-after s l (events.Shut d (Err closed)) = refl
now-after s l (events.HasRead d max got bytes) = refl
now-after s l (events.Ended d got) = refl
now-after s l (events.Cancelled d code (Ok done)) = refl
now-after s l (events.Cancelled d code (Err closed)) = refl
now-after s l (events.Accepted (Some d)) = refl
now-after s l (events.Accepted None) = refl
now-after s l (events.Finished d code got) = now-finish d code got l
now-after s l (events.Taken from bytes got) = now-message s from (reading_of bytes) got l
now-after s l (events.Polled got) = now-given s got (silenced l)
now-after s l (events.Clocked now) = refl

-- the moment of a node's side is its moment in the joint history
pub now-side : (s : Setup) (n : ℕ) (h : List Noted) → (looks s (side n h)).now ≡ moment n h
now-side s n [] = refl
now-side s n (e ∷ h) =
    (elim (e.node == n) as (λ b. (looks s (cond b (e.event ∷ side n h) (side n h))).now
    ≡ cond b (with_clock e.event (moment n h)) (moment n h)) [
      | true ↦ now-after s (looks s (side n h)) e.event ∙ ap (with_clock e.event) (now-side s n h)
      | false ↦ now-side s n h
    ])
