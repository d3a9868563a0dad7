-- What rounds leave of a stage; a caller that ended stays so.
use Rattle.std.proofs.Common.{◌≡◌, ℕ, zero, suc, Bool, true, false, List, [], ◌∷◌, Option, Some, None, refl, ap, sym}
use Rattle.std.proofs.Common.{subst, ◌∙◌, length, ◌==◌, ◌+◌, ◌&&◌, not}
use Rattle.std.specs.Prelude.{set, slice_get}
use Rattle.rx_model.specs.declared.answers.End.{End}
use Rattle.rx_model.specs.declared.event.Event.{Event}
use Rattle.rx_model.specs.declared.event.Noted.{Noted}
use Rattle.rx_model.specs.declared.names.Host.{Host}
use Rattle.rx_law.specs.Worlds.{Datagram}
use Rattle.rx_asks.specs.declared.ask.Phase.{Phase}
use Rattle.rx_asks.specs.declared.ask.TheConstants.{REPLY_BYTES}
use Rattle.rx_asks.specs.Asks.{begun, calling}
use Rattle.rx_asks.specs.View.{CallerState}
use Rattle.rx_jobs.specs.Dispatching.{accepts, dispatching}
use Rattle.rx_jobs.specs.Handlers.{Handlers}
use Rattle.rx_jobs.specs.Jobs.{JobState}
use Rattle.rx_events.specs.Events.{IsTaken, IsClocked}
use Rattle.rx_events.specs.Waits.{any_lives, least_wait}
use Rattle.rx_wire.specs.Turns.{Program}
use Rattle.rx_history.specs.Sides.{moment}
use Rattle.rx_plan.specs.Network.{all_nodes, below, comes_to, delivers, is_for}
use Rattle.rx_plan.specs.Parts.{Came, To, Then, by_test, each, ends}
use Rattle.rx_plan.specs.Programs.{Turn, cut_there, goes, is_endless, is_over}
use Rattle.rx_plan.specs.Rounds.{Polled, Polling, clients_first, may_move, moves_by, moves_on, polling, polls, polls_at}
use Rattle.rx_plan.specs.Rounds.{polls_out, round, rounds, settles}
use Rattle.rx_plan.specs.Stages.{InvokedState, Stage, event, host_at, is_client, with_event}
use Rattle.rx_plan.specs.Turned.{dispatches, jobs_left, turns_all, turns_at, turns_of, turns_where}
use Rattle.rx_rounds.proofs.Making.{then_to, ends_to, event_to, to_is, turn_over}
use Rattle.rx_rounds.proofs.Rounded.{Made, RoundMade, caller_at, dispatch_to, round_to}

-- ---- what no event changes

module _ {X : Type 0} (F : Stage → X) (same : (node : ℕ) (e : Event) (s : Stage) → F (with_event node e s) ≡ F s) where
  pub kept_turn : {View Ask : Type 0} (p : Program View Ask) (node : ℕ) (v w : View) (s t : Stage) (es : List Noted)
      → Turn p node v s es (To (w, t)) → F t ≡ F s
  kept_turn {View = View} {Ask = Ask} p node v w s t es turn = of v s es (To (w, t)) turn refl
    where
      of : (v : View) (s : Stage) (es : List Noted) (out : Came (View × Stage)) → Turn p node v s es out
          → out ≡ To (w, t) → F t ≡ F s
      of v s es out (cut_there a b) is = absurd cc
      of v s es out (is_over a b none) is = ap (λ (z : View × Stage). F z.1) (sym (to_is (v, s) (w, t) is))
      of v s es out (goes a b ask e more o asked allowed rest) is = of (p.heard v e) (with_event node e s) more o rest
          is ∙ same node e s
      of v s es out (is_endless a b fs turn_cut long) is = absurd cc

  pub kept_event : (node : ℕ) (is : Event → Type 0) (s t : Stage) → Made (event node is) s t → F t ≡ F s
  kept_event node is s t made =
      let h = event_to node is s t made.0 made.1 in
      ap F h.then_ ∙ same node h.event s

  pub kept_each : {Y : Type 0} (part : Y → Stage → List Noted → Came Stage → Type 0) (ys : List Y)
      → ((y : Y) (s t : Stage) → Made (part y) s t → F t ≡ F s) → (s t : Stage) → Made (each part ys) s t → F t ≡ F s
  kept_each part [] one s t made = ap F (ends_to s t made.0 made.1)
  kept_each part (y ∷ ys) one s t made =
      let b = then_to (part y s) (each part ys) made.0 t made.1 in
      kept_each part ys one b.between t (b.rest, b.goes) ∙ one y s b.between (b.front, b.made)

  pub kept_test : (b : Bool) (first other : Stage → List Noted → Came Stage → Type 0)
      → ((s t : Stage) → Made first s t → F t ≡ F s) → ((s t : Stage) → Made other s t → F t ≡ F s)
      → (s t : Stage) (es : List Noted) → by_test b (first s) (other s) es (To t) → F t ≡ F s
  kept_test true first other one two s t es made = one s t (es, made)
  kept_test false first other one two s t es made = two s t (es, made)

  kept_ends : (s t : Stage) → Made (λ (u : Stage). ends (To u)) s t → F t ≡ F s
  kept_ends s t made = ap F (ends_to s t made.0 made.1)

  pub kept_delivers : (ds : List Datagram) (s t : Stage) → Made (each delivers ds) s t → F t ≡ F s
  kept_delivers ds s t made =
      kept_each delivers ds (λ d u v m. kept_each (comes_to d) (all_nodes u)
      (λ node a b n. kept_test (is_for d a node) (event node (IsTaken d.from d.bytes)) (λ (q : Stage). ends (To q))
      (kept_event node (IsTaken d.from d.bytes)) kept_ends a b n.0 n.1) u v m) s t made

  pub kept_settles : (quiet : Bool) (s t : Stage) → Made (settles quiet) s t → F t ≡ F s
  kept_settles false s t made = kept_ends s t made
  kept_settles true s t made = by (least_wait s.nodes s.history) made.1
    where
      by : (o : Option ℕ) → moves_by o s made.0 (To t) → F t ≡ F s
      by None m = kept_ends s t (made.0, m)
      by (Some time) m =
          kept_test (not (time == 0) && may_move time s) (λ (u : Stage). each (moves_on time) (clients_first s) u)
          (λ (u : Stage). ends (To u))
          (λ a b n. kept_each (moves_on time) (clients_first s)
          (λ node u v k. kept_event node (IsClocked (moment node u.history + time)) u v k) a b n) kept_ends s t
          made.0 m

  kept_out : (node : ℕ) (p q : Polled) → Made (polls_out node) p q → F q.stage ≡ F p.stage
  kept_out node p q made = by (host_at p.stage node) made.1
    where
      by : (o : Option Host) → polls_at node o p made.0 (To q) → F q.stage ≡ F p.stage
      by None m = ap (λ (r : Polled). F r.stage) (ends_to p q made.0 m)
      by (Some from) m =
          let start : Polling = record { again = true; given = p.given } in
          let b = then_to (Turn (polling from) node start p.stage)
          (λ r. ends (To (record { stage = r.1; given = r.0.given }))) made.0 q m in
          ap (λ (r : Polled). F r.stage) (ends_to (record { stage = b.between.1; given = b.between.0.given }) q b.rest
          b.goes)
          ∙ kept_turn (polling from) node start b.between.0 p.stage b.between.1 b.front b.made

  kept_outs : (nodes : List ℕ) (p q : Polled) → Made (each polls_out nodes) p q → F q.stage ≡ F p.stage
  kept_outs [] p q made = ap (λ (r : Polled). F r.stage) (ends_to p q made.0 made.1)
  kept_outs (n ∷ ns) p q made =
      let b = then_to (polls_out n p) (each polls_out ns) made.0 q made.1 in
      kept_outs ns b.between q (b.rest, b.goes) ∙ kept_out n p b.between (b.front, b.made)

  pub kept_polls : (s : Stage) (p : Polled) → Made polls s p → F p.stage ≡ F s
  kept_polls s p made = kept_outs (clients_first s) (record { stage = s; given = [] }) p made

  pub kept_dispatch : ((js : List JobState) (s : Stage) → F (record s { jobs = js }) ≡ F s)
      → (g : Handlers) (s t : Stage) → Made (dispatches g) s t → F t ≡ F s
  kept_dispatch jobless g s t made =
      let d = dispatch_to g s t made in
      ap F d.then_ ∙ jobless (jobs_left d.view) d.stage
      ∙ kept_turn (dispatching g) 0 (accepts s.jobs) d.view s d.stage d.serves.0 d.serves.1

-- ---- a caller that ended

-- the one caller, which ended so
pub record HasEnded (call line : ℕ) (v : CallerState) (s : Stage) : Type 0 where
  pub phase : Phase
  pub is : s.callers ≡ caller_at call line (record v { phase = phase }) ∷ []

module _ (call line : ℕ) (v : CallerState) (end : End) (ended : v.end ≡ Some end) where
  ended_by : (s t : Stage) → t.callers ≡ s.callers → HasEnded call line v s → HasEnded call line v t
  ended_by s t same h = record { phase = h.phase; is = same ∙ h.is }

  asks_none : (ph : Phase) → (calling REPLY_BYTES).asks (begun (record v { phase = ph })) ≡ None
  asks_none ph = rw ended refl

  ended_turn : (ph : Phase) (s t : Stage) (es : List Noted)
      → s.callers ≡ caller_at call line (record v { phase = ph }) ∷ []
      → turns_of 0 (caller_at call line (record v { phase = ph })) s es (To t) → HasEnded call line v t
  ended_turn ph s t es is made =
      let i : InvokedState = caller_at call line (record v { phase = ph }) in
      let b = then_to (Turn (calling REPLY_BYTES) 1 (begun i.caller) s)
      (λ r. ends (To (record r.1 { callers = set s.callers 0 (caller_at call line r.0) }))) es t made in
      let o = turn_over (calling REPLY_BYTES) 1 (begun i.caller) b.between.0 s b.between.1 b.front
      (asks_none ph) b.made in
      record {
        phase = (begun i.caller).phase;
        is =
            ap (λ (u : Stage). u.callers) (ends_to
            (record b.between.1 { callers = set s.callers 0 (caller_at call line b.between.0) }) t b.rest b.goes)
            ∙ ap (λ (cs : List InvokedState). set cs 0 (caller_at call line b.between.0)) is
            ∙ ap (λ (w : CallerState). caller_at call line w ∷ []) o.0;
      }

  ended_turns : (s t : Stage) → HasEnded call line v s → Made turns_all s t → HasEnded call line v t
  ended_turns s t h made =
      let i : InvokedState = caller_at call line (record v { phase = h.phase }) in
      let order : below (length s.callers) ≡ 0 ∷ [] = ap (λ (cs : List InvokedState). below (length cs)) h.is in
      let all : each turns_at (0 ∷ []) s made.0 (To t) = subst (λ (ns : List ℕ). each turns_at ns s made.0 (To t))
      order made.1 in
      let b = then_to (turns_at 0 s) (each turns_at []) made.0 t all in
      let first : turns_where 0 (Some i) s b.front (To b.between) =
      subst (λ (cs : List InvokedState). turns_where 0 (slice_get cs 0) s b.front (To b.between)) h.is b.made in
      subst (HasEnded call line v) (sym (ends_to b.between t b.rest b.goes))
      (by (is_client 1 s) b.between b.front first)
    where
      by : (test : Bool) (u : Stage) (es : List Noted)
          → by_test test (turns_of 0 (caller_at call line (record v { phase = h.phase })) s) (ends (To s)) es (To u)
          → HasEnded call line v u
      by true u es m = ended_turn h.phase s u es h.is m
      by false u es m = ended_by s u (ap (λ (q : Stage). q.callers) (ends_to s u es m)) h

  ended_round : (g : Handlers) (s t : Stage) → HasEnded call line v s → RoundMade g s t → HasEnded call line v t
  ended_round g s t h r =
      let keeps : (node : ℕ) (e : Event) (u : Stage) → (with_event node e u).callers ≡ u.callers = λ node e u. refl in
      let a = ended_by s r.polled.stage (kept_polls (λ (u : Stage). u.callers) keeps s r.polled r.polls_are) h in
      let b = ended_by r.polled.stage r.delivered
      (kept_delivers (λ (u : Stage). u.callers) keeps r.polled.given r.polled.stage r.delivered r.delivers_are) a in
      let c = ended_by r.delivered r.served
      (kept_dispatch (λ (u : Stage). u.callers) keeps (λ js u. refl) g r.delivered r.served r.serves_are) b in
      let d = ended_turns r.served r.called c r.calls_are in
      ended_by r.called t (kept_settles (λ (u : Stage). u.callers) keeps (length r.polled.given == 0) r.called t
      r.settles_are) d

  -- through any number of rounds
  pub ended_rounds : (g : Handlers) (n : ℕ) (s t : Stage) → HasEnded call line v s → Made (rounds g n) s t
      → HasEnded call line v t
  ended_rounds g zero s t h made = subst (HasEnded call line v) (sym (ends_to s t made.0 made.1)) h
  ended_rounds g (suc n) s t h made = by (λ u k m. ended_rounds g n u t k m) (any_lives s.nodes s.history) made.1
    where
      by : ((u : Stage) → HasEnded call line v u → Made (rounds g n) u t → HasEnded call line v t) → (b : Bool)
          → by_test b (Then (round g s) (rounds g n)) (ends (To s)) made.0 (To t) → HasEnded call line v t
      by others false m = subst (HasEnded call line v) (sym (ends_to s t made.0 m)) h
      by others true m =
          let b = then_to (round g s) (rounds g n) made.0 t m in
          others b.between (ended_round g s b.between h (round_to g s b.between b.front b.made)) (b.rest, b.goes)
