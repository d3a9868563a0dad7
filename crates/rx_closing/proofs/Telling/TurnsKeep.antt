-- What holds of the server's side behind its deliveries holds behind the turns and the clocks of the round, where it
-- holds through what a handler asks and through clocks; and an ABORT that a channel owes is owed still.
use Rattle.std.proofs.Common.{◌≡◌, ◌≢◌, ◌==◌, ◌+◌, ◌&&◌, not, cond, ℕ, ℤ, zero, suc, Bool, true, false, List, [], ◌∷◌}
use Rattle.std.proofs.Common.{Option, Some, None, Ok, Err, Result, refl, ◌∙◌, ap, sym, subst, is_some, length}
use Rattle.std.proofs.Common.{option_map}
use Rattle.std.specs.Prelude.{option_and_then, set, slice_get, unwrap_or}
use Rattle.rx_model.specs.declared.answers.ServeRefused.{ServeRefused}
use Rattle.rx_model.specs.declared.answers.ServeRefused.TheVariants as refusals
use Rattle.rx_model.specs.declared.event.Event.{Event}
use Rattle.rx_model.specs.declared.event.Event.TheVariants as events
use Rattle.rx_model.specs.declared.event.Noted.{Noted}
use Rattle.rx_model.specs.declared.names.CallName.{CallName}
use Rattle.rx_model.specs.Names.{Channel, channel_of, same_connection}
use Rattle.rx_model.proofs.NameLaws.{number_itself, same_number}
use Rattle.rx_rules.specs.After.{after, finish_done, finished, is_zero, owing_abort, owing_ackall, read_done}
use Rattle.rx_rules.specs.CallLooks.{after_shut}
use Rattle.rx_rules.specs.Life.{is_calling}
use Rattle.rx_rules.specs.Looks.{CallRecord, ChannelLooks, ConnLooks, Looks, call_at, changed_at, channel_at, conn_at}
use Rattle.rx_rules.specs.Looks.{fresh_channel, is_call, on_channel, on_looks}
use Rattle.rx_rules.specs.Setup.{Setup}
use Rattle.rx_rules.proofs.ConnsLaws.{conn_at-on_conn, conn_if}
use Rattle.rx_history.specs.Sides.{moment, side}
use Rattle.rx_history.proofs.Given.GivenLaws.{ackall-number as ackall_numbers}
use Rattle.rx_asks.specs.declared.ask.TheConstants.{REPLY_BYTES}
use Rattle.rx_asks.specs.Asks.{begun, calling}
use Rattle.rx_jobs.specs.Dispatching.{Turning, accepts, dispatching}
use Rattle.rx_jobs.specs.Handlers.{Handlers}
use Rattle.rx_jobs.specs.Jobs.{Ask, IsCall, accept, finish, read, write}
use Rattle.rx_events.specs.Events.{IsClocked}
use Rattle.rx_events.specs.Waits.{least_wait}
use Rattle.rx_wire.specs.Turns.{Program}
use Rattle.rx_plan.proofs.Callers.{side_other, side_own}
use Rattle.rx_plan.specs.Network.{below}
use Rattle.rx_plan.specs.Parts.{Came, To, by_test, each, ends}
use Rattle.rx_plan.specs.Programs.{Turn, cut_there, goes, is_endless, is_over}
use Rattle.rx_plan.specs.Rounds.{clients_first, may_move, moves_by, moves_on, settles}
use Rattle.rx_plan.specs.Stages.{InvokedState, Stage, is_client, with_event}
use Rattle.rx_plan.specs.Turned.{dispatches, turns_all, turns_at, turns_of, turns_where}
use Rattle.rx_rounds.proofs.Making.{ends_to, event_to, then_to, to_is}
use Rattle.rx_rounds.proofs.Rounded.{Made, dispatch_to}
use Rattle.rx_closing.proofs.Telling.AbortOwed.{Owing}

-- ---- the turns of callers

-- they are no events of the server
turn_leaves : {View Ask : Type 0} (p : Program View Ask) (node : ℕ) (v w : View) (s t : Stage) (es : List Noted)
    → node ≢ 0 → Turn p node v s es (To (w, t)) → side 0 t.history ≡ side 0 s.history
turn_leaves {View = View} {Ask = Ask} p node v w s t es apart turn = of v s es (To (w, t)) turn refl
  where
    of : (v : View) (s : Stage) (es : List Noted) (out : Came (View × Stage)) → Turn p node v s es out → out ≡ To (w, t)
        → side 0 t.history ≡ side 0 s.history
    of v s es out (cut_there a b) is = absurd cc
    of v s es out (is_over a b none) is = ap (λ (z : View × Stage). side 0 z.1.history) (sym (to_is (v, s) (w, t) is))
    of v s es out (goes a b ask e more o asked allowed rest) is =
        of (p.heard v e) (with_event node e s) more o rest is ∙ side_other 0 node e s.history apart
    of v s es out (is_endless a b fs turn_cut long) is = absurd cc

each_leaves : {Y : Type 0} (part : Y → Stage → List Noted → Came Stage → Type 0) (ys : List Y)
    → ((y : Y) (s t : Stage) → Made (part y) s t → side 0 t.history ≡ side 0 s.history) → (s t : Stage)
    → Made (each part ys) s t → side 0 t.history ≡ side 0 s.history
each_leaves part [] one s t made = ap (λ (u : Stage). side 0 u.history) (ends_to s t made.0 made.1)
each_leaves part (y ∷ ys) one s t made =
    (let b = then_to (part y s) (each part ys) made.0 t made.1 in
    each_leaves part ys one b.between t (b.rest, b.goes) ∙ one y s b.between (b.front, b.made))

place_leaves : (place : ℕ) (s t : Stage) → Made (turns_at place) s t → side 0 t.history ≡ side 0 s.history
place_leaves place s t made = by (slice_get s.callers place) made.1
  where
    of : (i : InvokedState) → not (i.node == 0) ≡ true → Made (turns_of place i) s t
        → side 0 t.history ≡ side 0 s.history
    of i client m =
        let b = then_to (Turn (calling REPLY_BYTES) i.node (begun i.caller) s)
        (λ r. ends (To (record r.1 { callers = set s.callers place (record i { caller = r.0 }) }))) m.0 t m.1 in
        ap (λ (w : Stage). side 0 w.history)
        (ends_to (record b.between.1 { callers = set s.callers place (record i { caller = b.between.0 }) }) t b.rest
        b.goes)
        ∙ turn_leaves (calling REPLY_BYTES) i.node (begun i.caller) b.between.0 s b.between.1 b.front
        (λ is. (let yes : (i.node == 0) ≡ true = ap (λ (j : ℕ). j == 0) is ∙ number_itself 0 in
        let never : false ≡ true = sym (ap not yes) ∙ client in cc)) b.made

    first : (a b : Bool) → (a && b) ≡ true → a ≡ true
    first true b is = refl
    first false b is = absurd cc

    test : (i : InvokedState) (b : Bool) → is_client i.node s ≡ b
        → by_test b (turns_of place i s) (ends (To s)) made.0 (To t) → side 0 t.history ≡ side 0 s.history
    test i true client m = of i (first (not (i.node == 0)) _ client) (made.0, m)
    test i false other m = ap (λ (u : Stage). side 0 u.history) (ends_to s t made.0 m)

    by : (o : Option InvokedState) → turns_where place o s made.0 (To t) → side 0 t.history ≡ side 0 s.history
    by None m = ap (λ (u : Stage). side 0 u.history) (ends_to s t made.0 m)
    by (Some i) m = test i (is_client i.node s) refl m

pub calls_leave : (s t : Stage) → Made turns_all s t → side 0 t.history ≡ side 0 s.history
calls_leave s t made = each_leaves turns_at (below (length s.callers)) place_leaves s t made

-- ---- the turn of the dispatcher, and clocks

module _ (P : List Event → Type 0) (serves : (h : List Event) (a : Ask) (e : Event) → IsCall a e → P h → P (e ∷ h))
    (clocks : (h : List Event) (now : ℕ) (e : Event) → IsClocked now e → P h → P (e ∷ h)) where
  abbrev At : Stage → Type 0
  At s = P (side 0 s.history)

  dispatch_turn : (g : Handlers) (v w : Turning) (s t : Stage) (es : List Noted)
      → Turn (dispatching g) 0 v s es (To (w, t)) → At s → At t
  dispatch_turn g v w s t es turn = of v s es (To (w, t)) turn refl
    where
      of : (v : Turning) (s : Stage) (es : List Noted) (out : Came (Turning × Stage))
          → Turn (dispatching g) 0 v s es out
          → out ≡ To (w, t) → At s → At t
      of v s es out (cut_there a b) is at = absurd cc
      of v s es out (is_over a b none) is at =
          subst (λ (z : Turning × Stage). At z.1) (to_is (v, s) (w, t) is) at
      of v s es out (goes a b ask e more o asked allowed rest) is at =
          of ((dispatching g).heard v e) (with_event 0 e s) more o rest is
          (subst P (sym (side_own 0 e s.history)) (serves (side 0 s.history) ask e allowed.0 at))
      of v s es out (is_endless a b fs turn_cut long) is at = absurd cc

  pub dispatch_keeps : (g : Handlers) (s t : Stage) → Made (dispatches g) s t → At s → At t
  dispatch_keeps g s t made at =
      let d = dispatch_to g s t made in
      subst At (sym d.then_) (dispatch_turn g (accepts s.jobs) d.view s d.stage d.serves.0 d.serves.1 at)

  clock_one : (time node : ℕ) (s t : Stage) → Made (moves_on time node) s t → At s → At t
  clock_one time node s t made at =
      (let e = event_to node (IsClocked (moment node s.history + time)) s t made.0 made.1 in
      subst At (sym e.then_) (by (node == 0) refl e.event e.allowed.0))
    where
      by : (b : Bool) → (node == 0) ≡ b → (e : Event) → IsClocked (moment node s.history + time) e
          → At (with_event node e s)
      by true same e is =
          subst (λ (j : ℕ). At (with_event j e s)) (sym (same_number node 0 same))
          (subst P (sym (side_own 0 e s.history)) (clocks (side 0 s.history) (moment node s.history + time) e is at))
      by false other e is =
          subst P (sym (side_other 0 node e s.history (λ same.
          (let yes : (node == 0) ≡ true = ap (λ (j : ℕ). j == 0) same ∙ number_itself 0 in
          let never : true ≡ false = sym yes ∙ other in cc)))) at

  clock_each : (time : ℕ) (ns : List ℕ) (s t : Stage) → Made (each (moves_on time) ns) s t → At s → At t
  clock_each time [] s t made at = subst At (sym (ends_to s t made.0 made.1)) at
  clock_each time (n ∷ ns) s t made at =
      (let b = then_to (moves_on time n s) (each (moves_on time) ns) made.0 t made.1 in
      clock_each time ns b.between t (b.rest, b.goes) (clock_one time n s b.between (b.front, b.made) at))

  pub settles_keeps : (quiet : Bool) (s t : Stage) → Made (settles quiet) s t → At s → At t
  settles_keeps false s t made at = subst At (sym (ends_to s t made.0 made.1)) at
  settles_keeps true s t made at = by (least_wait s.nodes s.history) made.1
    where
      test : (time : ℕ) (b : Bool)
          → by_test b (each (moves_on time) (clients_first s) s) (ends (To s)) made.0 (To t) → At t
      test time true m = clock_each time (clients_first s) s t (made.0, m) at
      test time false m = subst At (sym (ends_to s t made.0 m)) at

      by : (o : Option ℕ) → moves_by o s made.0 (To t) → At t
      by None m = subst At (sym (ends_to s t made.0 m)) at
      by (Some time) m = test time (not (time == 0) && may_move time s) m

-- ---- an ABORT that is owed

changed_holds : (P : ChannelLooks → Type 0) (f : ChannelLooks → ChannelLooks) → ((q : ChannelLooks) → P q → P (f q))
    → (qs : List ChannelLooks) (n k : ℕ)
    → P (unwrap_or (slice_get qs k) (fresh_channel 0))
    → P (unwrap_or (slice_get (changed_at n f qs) k) (fresh_channel 0))
changed_holds P f keeps [] n k here = here
changed_holds P f keeps (q ∷ qs) zero zero here = keeps q here
changed_holds P f keeps (q ∷ qs) zero (suc k) here = here
changed_holds P f keeps (q ∷ qs) (suc n) zero here = here
changed_holds P f keeps (q ∷ qs) (suc n) (suc k) here =
    changed_holds P f keeps qs n k here

-- what holds of a channel and is left by a change holds behind it
pub channel_holds : (P : ChannelLooks → Type 0) (l : Looks) (ch d : Channel) (f : ChannelLooks → ChannelLooks)
    → ((q : ChannelLooks) → P q → P (f q)) → P (channel_at l d) → P (channel_at (on_channel ch f l) d)
channel_holds P l ch d f keeps here =
    subst (λ (o : Option ConnLooks). P (unwrap_or (option_and_then (λ r. slice_get r.channels d.chan) o)
    (fresh_channel 0)))
    (sym (conn_at-on_conn d.connection ch.connection change l (λ r. refl))) (of (conn_at l d.connection) here)
  where
    change : ConnLooks → ConnLooks
    change r = record r { channels = changed_at ch.chan f r.channels }

    of : (o : Option ConnLooks)
        → P (unwrap_or (option_and_then (λ r. slice_get r.channels d.chan) o) (fresh_channel 0))
        → P (unwrap_or (option_and_then (λ r. slice_get r.channels d.chan)
        (option_map (conn_if ch.connection change) o)) (fresh_channel 0))
    of None here = here
    of (Some r) here = by (same_connection r.connection ch.connection)
      where
        by : (b : Bool) → P (unwrap_or (slice_get (cond b (change r) r).channels d.chan) (fresh_channel 0))
        by true = changed_holds P f keeps r.channels ch.chan d.chan here
        by false = here

owing_changed : (c : CallName) (ch : Channel) (f : ChannelLooks → ChannelLooks) (l : Looks)
    → ((q : ChannelLooks) → is_some q.owed_abort ≡ true → is_some (f q).owed_abort ≡ true)
    → ((q : ChannelLooks) → (f q).number ≡ q.number) → Owing c l → Owing c (on_channel ch f l)
owing_changed c ch f l owes numbers o =
    record {
      owed = channel_holds (λ (q : ChannelLooks). is_some q.owed_abort ≡ true) l ch (channel_of c) f owes o.owed;
      number =
          channel_holds (λ (q : ChannelLooks). q.number ≡ c.number) l ch (channel_of c) f (λ q is. numbers q ∙ is)
          o.number;
      some = o.some;
    }

ackall_owes : (owes : Bool) (q : ChannelLooks) → is_some q.owed_abort ≡ true
    → is_some (owing_ackall owes q).owed_abort ≡ true
ackall_owes true q is = is
ackall_owes false q is = is

owing_read : (c d : CallName) (end : Bool) (bytes : List ℕ) (l : Looks) → Owing c l → Owing c (read_done d end bytes l)
owing_read c d end bytes l o =
    (let owes : Bool = end && is_call (λ (k : CallRecord). is_calling k.life) (call_at l d) in
    let r = owing_changed c (channel_of d) (owing_ackall owes) l (ackall_owes owes) (ackall_numbers owes) o in
    record { owed = r.owed; number = r.number; some = r.some })

owing_finished : (c d : CallName) (code : ℤ) (l : Looks) → Owing c l → Owing c (finished d code l)
owing_finished c d code l o = of (is_zero code)
  where
    of : (b : Bool) → Owing c (cond b (on_looks d after_shut l) (on_channel (channel_of d) (owing_abort (Some code)) l))
    of true = record { owed = o.owed; number = o.number; some = o.some }
    of false = owing_changed c (channel_of d) (owing_abort (Some code)) l (λ q is. refl) (λ q. refl) o

owing_finish : (c d : CallName) (code : ℤ) (got : Result (Unit {0}) ServeRefused) (l : Looks) → Owing c l
    → Owing c (finish_done d code got l)
owing_finish c d code (Ok done) l o =
    (let r = owing_finished c d code l o in record { owed = r.owed; number = r.number; some = r.some })
owing_finish c d code (Err (refusals.Gone told)) l o = record { owed = o.owed; number = o.number; some = o.some }
owing_finish c d code (Err refusals.NotOpen) l o = o
owing_finish c d code (Err refusals.Unread) l o = o

owing_accepted : (s : Setup) (c : CallName) (got : Option CallName) (l : Looks) → Owing c l
    → Owing c (after s (events.Accepted got) l)
owing_accepted s c (Some d) l o = record { owed = o.owed; number = o.number; some = o.some }
owing_accepted s c None l o = o

-- what a handler asks leaves it owed
pub owing_asked : (s : Setup) (c : CallName) (a : Ask) (e : Event) (l : Looks) → IsCall a e → Owing c l
    → Owing c (after s e l)
owing_asked s c accept e l is o =
    subst (λ (f : Event). Owing c (after s f l)) (sym is.1) (owing_accepted s c is.0 l o)
owing_asked s c (read d) e l is o =
    subst (λ (f : Event). Owing c (after s f l)) (sym is.2) (owing_read c d _ is.1 l o)
owing_asked s c (write d offer) e l is o =
    subst (λ (f : Event). Owing c (after s f l)) (sym is.1)
    (record { owed = o.owed; number = o.number; some = o.some })
owing_asked s c (finish d code) e l is o =
    subst (λ (f : Event). Owing c (after s f l)) (sym is.1) (owing_finish c d code is.0 l o)

-- so does a clock
pub owing_clocked : (s : Setup) (c : CallName) (now : ℕ) (e : Event) (l : Looks) → IsClocked now e → Owing c l
    → Owing c (after s e l)
owing_clocked s c now (events.Clocked at) l is o = record { owed = o.owed; number = o.number; some = o.some }
owing_clocked s c now _ l is o = absurd is
