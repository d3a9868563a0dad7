-- A history only grows: each part of a run adds events before what is there.
use Rattle.std.proofs.Common.{◌≡◌, ◌++◌, ◌==◌, ◌+◌, ◌&&◌, not, ℕ, zero, suc, Bool, true, false, List, [], ◌∷◌}
use Rattle.std.proofs.Common.{Option, Some, None, refl, ap, sym, subst, ◌∙◌, length, append_assoc}
use Rattle.std.specs.Prelude.{set, slice_get}
use Rattle.rx_model.specs.declared.event.Event.{Event}
use Rattle.rx_model.specs.declared.event.Noted.{Noted}
use Rattle.rx_model.specs.declared.names.Host.{Host}
use Rattle.rx_history.specs.Sides.{moment}
use Rattle.rx_law.specs.Worlds.{Datagram}
use Rattle.rx_asks.specs.declared.ask.TheConstants.{REPLY_BYTES}
use Rattle.rx_asks.specs.Asks.{Asking, Cancels, IsAsked, Offers, Reads, Shuts, begun, calling}
use Rattle.rx_jobs.specs.Dispatching.{accepts, dispatching}
use Rattle.rx_jobs.specs.Handlers.{Handlers}
use Rattle.rx_events.specs.Events.{IsClocked, IsPolled, IsTaken}
use Rattle.rx_jobs.specs.Jobs.{Ask, IsCall, accept, finish, read, write}
use Rattle.rx_rules.proofs.EveryLaws.{Every, every-append}
use Rattle.rx_model.specs.declared.event.Event.TheVariants as events
use Rattle.std.proofs.Common.{Ok, Err}
use Rattle.rx_events.specs.Waits.{any_lives, least_wait}
use Rattle.rx_wire.specs.Turns.{Program, noted}
use Rattle.rx_plan.specs.Network.{all_nodes, below, comes_to, delivers, is_for}
use Rattle.rx_plan.specs.Parts.{Came, Then, To, by_test, each, ends}
use Rattle.rx_plan.specs.Programs.{Turn, cut_there, goes, is_endless, is_over}
use Rattle.rx_plan.specs.Rounds.{Polled, Polling, clients_first, may_move, moves_by, moves_on, polling, polls_at}
use Rattle.rx_plan.specs.Rounds.{polls_out, round, rounds, settles}
use Rattle.rx_plan.specs.Stages.{InvokedState, Stage, event, host_at, is_client, with_event}
use Rattle.rx_plan.specs.Turned.{dispatches, turns_all, turns_at, turns_of, turns_where}
use Rattle.rx_rounds.proofs.Making.{ends_to, event_to, then_to, to_is}
use Rattle.rx_rounds.proofs.Rounded.{Made, RoundMade, dispatch_to, round_to}

-- an event answers no call
abbrev pub AnswersNone : Event → Type 0
AnswersNone (events.Called cid (Ok d)) = ⊥
AnswersNone _ = Unit {0}

-- more was added before it, no call was answered, and no line's name of a call was kept
pub record Grew (s t : Stage) : Type 0 where
  pub more : List Noted
  pub is : t.history ≡ more ++ s.history
  pub quiet : Every (λ (n : Noted). AnswersNone n.event) more
  pub calls : t.calls ≡ s.calls

-- ---- which events do

polled_quiet : (e : Event) → IsPolled e → AnswersNone e
polled_quiet (events.Called cid (Ok d)) is = is
polled_quiet (events.Called cid (Err refused)) is = tt
polled_quiet _ is = tt

pub taken_quiet : (from : Host) (bytes : List ℕ) (e : Event) → IsTaken from bytes e → AnswersNone e
taken_quiet from bytes (events.Called cid (Ok d)) is = is
taken_quiet from bytes (events.Called cid (Err refused)) is = tt
taken_quiet from bytes _ is = tt

pub clocked_quiet : (now : ℕ) (e : Event) → IsClocked now e → AnswersNone e
clocked_quiet now (events.Called cid (Ok d)) is = is
clocked_quiet now (events.Called cid (Err refused)) is = tt
clocked_quiet now _ is = tt

pub asked_quiet : (a : Asking) (e : Event) → IsAsked a e → AnswersNone e
asked_quiet (Offers c bytes) (events.Called cid (Ok d)) is = is
asked_quiet (Shuts c) (events.Called cid (Ok d)) is = is
asked_quiet (Reads c max) (events.Called cid (Ok d)) is = is
asked_quiet (Cancels c code) (events.Called cid (Ok d)) is = is
asked_quiet a (events.Called cid (Err refused)) is = tt
asked_quiet a _ is = tt

pub job_quiet : (a : Ask) (e : Event) → IsCall a e → AnswersNone e
job_quiet accept e is = subst AnswersNone (sym is.1) tt
job_quiet (read c) e is = subst AnswersNone (sym is.2) tt
job_quiet (write c offer) e is = subst AnswersNone (sym is.1) tt
job_quiet (finish c code) e is = subst AnswersNone (sym is.1) tt

pub grew_none : (s t : Stage) → t.history ≡ s.history → t.calls ≡ s.calls → Grew s t
grew_none s t same calls = record { more = []; is = same; quiet = tt; calls = calls }

pub grew_on : (s t u : Stage) → Grew s t → Grew t u → Grew s u
grew_on s t u a b =
    record {
      more = b.more ++ a.more;
      is = b.is ∙ ap (λ (h : List Noted). b.more ++ h) a.is ∙ sym (append_assoc b.more a.more s.history);
      quiet = every-append (λ (n : Noted). AnswersNone n.event) b.more a.more b.quiet a.quiet;
      calls = b.calls ∙ a.calls;
    }

pub grew_event : (node : ℕ) (e : Event) (s : Stage) → AnswersNone e → Grew s (with_event node e s)
grew_event node e s none = record { more = noted node e ∷ []; is = refl; quiet = (none, tt); calls = refl }

pub grew_turn : {View Ask : Type 0} (p : Program View Ask) (node : ℕ) (v w : View) (s t : Stage) (es : List Noted)
    → ((a : Ask) (e : Event) → p.is a e → AnswersNone e) → Turn p node v s es (To (w, t)) → Grew s t
grew_turn {View = View} {Ask = Ask} p node v w s t es none_ turn = of v s es (To (w, t)) turn refl
  where
    of : (v : View) (s : Stage) (es : List Noted) (out : Came (View × Stage)) → Turn p node v s es out
        → out ≡ To (w, t) → Grew s t
    of v s es out (cut_there a b) is = absurd cc
    of v s es out (is_over a b none) is = grew_none s t
        (ap (λ (z : View × Stage). z.1.history) (sym (to_is (v, s) (w, t) is)))
        (ap (λ (z : View × Stage). z.1.calls) (sym (to_is (v, s) (w, t) is)))
    of v s es out (goes a b ask e more o asked allowed rest) is =
        grew_on s (with_event node e s) t (grew_event node e s (none_ ask e allowed.0))
        (of (p.heard v e) (with_event node e s) more o rest is)
    of v s es out (is_endless a b fs turn_cut long) is = absurd cc

grew_ends : (s t : Stage) → Made (λ (u : Stage). ends (To u)) s t → Grew s t
grew_ends s t made = grew_none s t (ap (λ (u : Stage). u.history) (ends_to s t made.0 made.1))
    (ap (λ (u : Stage). u.calls) (ends_to s t made.0 made.1))

grew_one : (node : ℕ) (is : Event → Type 0) (s t : Stage) → ((e : Event) → is e → AnswersNone e)
    → Made (event node is) s t
    → Grew s t
grew_one node is s t none_ made =
    let h = event_to node is s t made.0 made.1 in
    subst (Grew s) (sym h.then_) (grew_event node h.event s (none_ h.event h.allowed.0))

grew_each : {Y : Type 0} (part : Y → Stage → List Noted → Came Stage → Type 0) (ys : List Y)
    → ((y : Y) (s t : Stage) → Made (part y) s t → Grew s t) → (s t : Stage) → Made (each part ys) s t → Grew s t
grew_each part [] one s t made = grew_ends s t made
grew_each part (y ∷ ys) one s t made =
    let b = then_to (part y s) (each part ys) made.0 t made.1 in
    grew_on s b.between t (one y s b.between (b.front, b.made)) (grew_each part ys one b.between t (b.rest, b.goes))

grew_test : (b : Bool) (first other : Stage → List Noted → Came Stage → Type 0)
    → ((s t : Stage) → Made first s t → Grew s t) → ((s t : Stage) → Made other s t → Grew s t)
    → (s t : Stage) (es : List Noted) → by_test b (first s) (other s) es (To t) → Grew s t
grew_test true first other one two s t es made = one s t (es, made)
grew_test false first other one two s t es made = two s t (es, made)

grew_delivers : (ds : List Datagram) (s t : Stage) → Made (each delivers ds) s t → Grew s t
grew_delivers ds s t made =
    grew_each delivers ds (λ d u v m. grew_each (comes_to d) (all_nodes u)
    (λ node a b n. grew_test (is_for d a node) (event node (IsTaken d.from d.bytes)) (λ (q : Stage). ends (To q))
    (λ u1 v1 made1. grew_one node (IsTaken d.from d.bytes) u1 v1 (taken_quiet d.from d.bytes) made1) grew_ends a b
    n.0 n.1) u v m) s t made

grew_settles : (quiet : Bool) (s t : Stage) → Made (settles quiet) s t → Grew s t
grew_settles false s t made = grew_ends s t made
grew_settles true s t made = by (least_wait s.nodes s.history) made.1
  where
    by : (o : Option ℕ) → moves_by o s made.0 (To t) → Grew s t
    by None m = grew_ends s t (made.0, m)
    by (Some time) m =
        grew_test (not (time == 0) && may_move time s) (λ (u : Stage). each (moves_on time) (clients_first s) u)
        (λ (u : Stage). ends (To u))
        (λ a b n. grew_each (moves_on time) (clients_first s)
        (λ node u v k. grew_one node (IsClocked (moment node u.history + time)) u v
        (clocked_quiet (moment node u.history + time)) k) a b n) grew_ends s t made.0 m

grew_out : (node : ℕ) (p q : Polled) → Made (polls_out node) p q → Grew p.stage q.stage
grew_out node p q made = by (host_at p.stage node) made.1
  where
    by : (o : Option Host) → polls_at node o p made.0 (To q) → Grew p.stage q.stage
    by None m = grew_none p.stage q.stage (ap (λ (r : Polled). r.stage.history) (ends_to p q made.0 m))
        (ap (λ (r : Polled). r.stage.calls) (ends_to p q made.0 m))
    by (Some from) m =
        let start : Polling = record { again = true; given = p.given } in
        let b = then_to (Turn (polling from) node start p.stage)
        (λ r. ends (To (record { stage = r.1; given = r.0.given }))) made.0 q m in
        subst (λ (r : Polled). Grew p.stage r.stage)
        (sym (ends_to (record { stage = b.between.1; given = b.between.0.given }) q b.rest b.goes))
        (grew_turn (polling from) node start b.between.0 p.stage b.between.1 b.front (λ a e is. polled_quiet e is)
        b.made)

grew_outs : (nodes : List ℕ) (p q : Polled) → Made (each polls_out nodes) p q → Grew p.stage q.stage
grew_outs [] p q made = grew_none p.stage q.stage (ap (λ (r : Polled). r.stage.history) (ends_to p q made.0 made.1))
    (ap (λ (r : Polled). r.stage.calls) (ends_to p q made.0 made.1))
grew_outs (n ∷ ns) p q made =
    let b = then_to (polls_out n p) (each polls_out ns) made.0 q made.1 in
    grew_on p.stage b.between.stage q.stage (grew_out n p b.between (b.front, b.made))
    (grew_outs ns b.between q (b.rest, b.goes))

grew_dispatch : (g : Handlers) (s t : Stage) → Made (dispatches g) s t → Grew s t
grew_dispatch g s t made =
    let d = dispatch_to g s t made in
    grew_on s d.stage t (grew_turn (dispatching g) 0 (accepts s.jobs) d.view s d.stage d.serves.0 job_quiet
    d.serves.1) (grew_none d.stage t (ap (λ (u : Stage). u.history) d.then_) (ap (λ (u : Stage). u.calls) d.then_))

-- a turn of each caller
grew_place : (place : ℕ) (s t : Stage) → Made (turns_at place) s t → Grew s t
grew_place place s t made = by (slice_get s.callers place) made.1
  where
    of : (i : InvokedState) (u v : Stage) → Made (turns_of place i) u v → Grew u v
    of i u v m =
        let b = then_to (Turn (calling REPLY_BYTES) i.node (begun i.caller) u)
        (λ r. ends (To (record r.1 { callers = set u.callers place (record i { caller = r.0 }) }))) m.0 v m.1 in
        grew_on u b.between.1 v (grew_turn (calling REPLY_BYTES) i.node (begun i.caller) b.between.0 u b.between.1
        b.front asked_quiet b.made)
        (grew_none b.between.1 v (ap (λ (w : Stage). w.history)
        (ends_to (record b.between.1 { callers = set u.callers place (record i { caller = b.between.0 }) }) v
        b.rest b.goes)) (ap (λ (w : Stage). w.calls)
        (ends_to (record b.between.1 { callers = set u.callers place (record i { caller = b.between.0 }) }) v
        b.rest b.goes)))

    by : (o : Option InvokedState) → turns_where place o s made.0 (To t) → Grew s t
    by None m = grew_ends s t (made.0, m)
    by (Some i) m = grew_test (is_client i.node s) (turns_of place i) (λ (u : Stage). ends (To u))
        (of i) grew_ends s t made.0 m

pub grew_calls : (s t : Stage) → Made turns_all s t → Grew s t
grew_calls s t made = grew_each turns_at (below (length s.callers)) grew_place s t made

grew_round : (g : Handlers) (s t : Stage) → RoundMade g s t → Grew s t
grew_round g s t r =
    grew_on s r.polled.stage t (grew_outs (clients_first s) (record { stage = s; given = [] }) r.polled r.polls_are)
    (grew_on r.polled.stage r.delivered t (grew_delivers r.polled.given r.polled.stage r.delivered r.delivers_are)
    (grew_on r.delivered r.served t (grew_dispatch g r.delivered r.served r.serves_are)
    (grew_on r.served r.called t (grew_calls r.served r.called r.calls_are)
    (grew_settles (length r.polled.given == 0) r.called t r.settles_are))))

pub grew_rounds : (g : Handlers) (n : ℕ) (s t : Stage) → Made (rounds g n) s t → Grew s t
grew_rounds g zero s t made = grew_ends s t made
grew_rounds g (suc n) s t made = by (λ u m. grew_rounds g n u t m) (any_lives s.nodes s.history) made.1
  where
    by : ((u : Stage) → Made (rounds g n) u t → Grew u t) → (b : Bool)
        → by_test b (Then (round g s) (rounds g n)) (ends (To s)) made.0 (To t) → Grew s t
    by others false m = grew_ends s t (made.0, m)
    by others true m =
        let b = then_to (round g s) (rounds g n) made.0 t m in
        grew_on s b.between t (grew_round g s b.between (round_to g s b.between b.front b.made))
        (others b.between (b.rest, b.goes))
