-- A job that decided a code while it read finishes with it: that stands in the history, and stays there.
use Rattle.std.proofs.Common.{◌≡◌, ◌≢◌, ◌≤◌, ◌||◌, not, ℕ, ℤ, pos, true, false, List, [], ◌∷◌, ◌++◌}
use Rattle.std.proofs.Common.{refl, ap, sym, subst, ◌∙◌, Option, Some, Result, Ok, append_assoc}
use Rattle.std.proofs.lemmas.Bool.{or_right}
use Rattle.rx_model.specs.declared.answers.ServeRefused.{ServeRefused}
use Rattle.rx_model.specs.declared.event.Event.{Event}
use Rattle.rx_model.specs.declared.event.Event.TheVariants as events
use Rattle.rx_model.specs.declared.names.CallName.{CallName}
use Rattle.rx_rules.specs.After.{is_zero}
use Rattle.rx_rules.specs.CallLooks.{CallLooks, after_read}
use Rattle.rx_rules.specs.Life as lives
use Rattle.rx_rules.specs.Looks.{CallRecord, Looks}
use Rattle.rx_rules.specs.Rules.{Allowed, served_finish}
use Rattle.rx_history.specs.Sides.{side}
use Rattle.rx_jobs.specs.declared.job.Phase.TheVariants as phases
use Rattle.rx_jobs.specs.Dispatching.{Turning, dispatching, settle}
use Rattle.rx_jobs.specs.Handlers.{Handlers, early_code}
use Rattle.rx_jobs.specs.Jobs.{JobState, begun, coded}
use Rattle.rx_jobs.specs.Jobs as asks
use Rattle.rx_plan.specs.Parts.{To}
use Rattle.rx_plan.specs.Programs.{Turn}
use Rattle.rx_plan.specs.Stages.{InvokedState, Stage, with_event}
use Rattle.rx_rounds.specs.Arriving.{HasRefused}
use Rattle.rx_rounds.proofs.Refusals.Codes.{early_no_zero}
use Rattle.rx_rounds.proofs.Growing.{Grew, grew_calls, grew_none, grew_on, grew_rounds, grew_turn, job_quiet}
use Rattle.rx_rounds.proofs.One.OneRequest.{WentFurther, keeps_whole}
use Rattle.rx_rounds.proofs.One.OneTurn.{IsFurther, Keeps, keeps_on, keeps_still}
use Rattle.rx_rounds.proofs.Reading.ReadsOut.{ReadOut, decides, reads_the_end, waits_for_more}
use Rattle.rx_rounds.proofs.Flow.{total}
use Rattle.rx_rounds.proofs.Keeper.{piece}
use Rattle.rx_rules.specs.Received.{packet_at}
use Rattle.rx_rounds.proofs.Making.{turn_goes}
use Rattle.rx_rounds.proofs.One.OneCall.{Ends, from_server, node_of, server_setup, the_call}
use Rattle.rx_rounds.proofs.One.OneSteps.{call_is}
use Rattle.rx_rounds.proofs.Turned.{Serves}
use Rattle.rx_rounds.proofs.Two.{Two, at_server}
use Rattle.rx_law.proofs.Law.{side-split}
use Rattle.rx_rounds.proofs.Serving.ServeDecides.{no_zero}

-- what stands in a history stays in a longer one
pub refused_grew : (more h : List Event) (c : CallName) → HasRefused h c → HasRefused (more ++ h) c
refused_grew more h c r = (
  more ++ r.0,
  r.1,
  r.2,
  ap (λ (es : List Event). more ++ es) r.3
      ∙ sym (append_assoc more r.0 (events.Finished c r.2 (Ok tt) ∷ r.1)),
  r.4,
)

pub refused_later : (s t : Stage) (c : CallName) → Grew s t → HasRefused (side 0 s.history) c
    → HasRefused (side 0 t.history) c
refused_later s t c g r =
    subst (λ (h : List Event). HasRefused h c) (sym (ap (side 0) g.is ∙ side-split 0 g.more s.history))
    (refused_grew (side 0 g.more) (side 0 s.history) c r)

module _ (x : Ends) (g : Handlers) (lc : Looks) (cs : List InvokedState) (js : List JobState) (now given used : ℕ)
    (k : CallLooks) (request : List ℕ) (code : ℤ) (s u : Stage) (d : Turning) where
  -- behind the turn in which it was decided
  pub refused_then : early_code g request false ≡ Some code
      → Two x (node_of x (from_server x given used) (the_call x ∷ []) now lives.Accepted k) lc cs js s
      → Serves g (settle g [] (record
      { job = coded code (record (begun (the_call x)) { request = request }); phase = phases.Moves }) []) s d u
      → HasRefused (side 0 u.history) (the_call x)
  refused_then early two turn =
      let c : CallName = the_call x in
      let ls : Looks = node_of x (from_server x given used) (c ∷ []) now lives.Accepted k in
      let job : JobState = coded code (record (begun c) { request = request }) in
      let v : Turning = settle g [] (record { job = job; phase = phases.Moves }) [] in
      let some : code ≢ pos 0 = early_no_zero g request false code early in
      let open_ : is_zero code ≡ false = no_zero code some in
      let asked : (dispatching g).asks v ≡ Some (asks.finish c code) = rw open_ refl in
      let n = turn_goes (dispatching g) 0 v d (asks.finish c code) s u turn.0 asked turn.1 in
      let both = at_server x ls lc cs js s ((dispatching g).is (asks.finish c code)) n.event two n.allowed in
      let allowed : Allowed (server_setup x) ls (events.Finished c code both.0.0) = subst
      (λ (e : Event). Allowed (server_setup x) ls e) both.0.1 both.1 in
      let fine : (k.received.ended || not (is_zero code)) ≡ true = or_right k.received.ended (not (is_zero code))
      (ap not open_) in
      let got : both.0.0 ≡ Ok tt = allowed.1
      ∙ ap (λ (o : Option CallRecord). served_finish o code)
      (call_is x (from_server x given used) (c ∷ []) now lives.Accepted k) ∙ rw fine refl in
      let e : Event = events.Finished c code (Ok tt) in
      let is : n.event ≡ e = both.0.1 ∙ ap (λ (r : Result (Unit {0}) ServeRefused). events.Finished c code r) got in
      let rest : Turn (dispatching g) 0 ((dispatching g).heard v e) (with_event 0 e s) n.more (To (d, u)) =
      subst (λ (f : Event). Turn (dispatching g) 0 ((dispatching g).heard v f) (with_event 0 f s) n.more (To (d, u))) is
      n.rest in
      refused_later (with_event 0 e s) u c
      (grew_turn (dispatching g) 0 ((dispatching g).heard v e) d (with_event 0 e s) u n.more job_quiet rest)
      ([], side 0 s.history, code, refl, some)

-- ---- how a request arrived

-- its handler refused it; or at one of the stages the server kept each piece as it was said
pub data Arrived (x : Ends) (bytes : List ℕ) (t : Stage) : Type 0 where
  was_refused : HasRefused (side 0 t.history) (the_call x) → Arrived x bytes t
  was_kept : (s : Stage) (k : CallLooks) (given : ℕ) (lc : Looks) (cs : List InvokedState) (js : List JobState)
      → Two x (node_of x (from_server x given 0) (the_call x ∷ []) 0 lives.Accepted k) lc cs js s
      → ((j : ℕ) → 1 ≤ j → j ≤ total bytes → packet_at k.received.kept j ≡ Some (piece bytes j)) → Grew s t
      → Arrived x bytes t

pub arrived : (x : Ends) (g : Handlers) (bytes : List ℕ) (t : Stage) → WentFurther x g bytes t → Arrived x bytes t
arrived x g bytes t w = of w.turn.view w.turn.stage w.turn.out w.turn.far behind
  where
    behind : Grew w.turn.stage t
    behind =
        grew_on w.turn.stage w.served t
        (grew_none w.turn.stage w.served (ap (λ (u : Stage). u.history) w.turn.then_)
        (ap (λ (u : Stage). u.calls) w.turn.then_))
        (grew_on w.served w.called t (grew_calls w.served w.called w.calls) (grew_rounds g w.left w.called t w.rest))

    of : (d : Turning) (u : Stage) (out : ReadOut x g w.client [] w.jobs 0 w.given 0
        (λ k request. Keeps x g w.client [] bytes w.given w.previous w.count w.owed k)
        (keeps_on x g w.client [] bytes w.given w.previous w.count w.owed)
        (keeps_still x g w.client [] bytes w.given w.previous w.count w.owed) d u)
        → IsFurther x g w.client [] bytes w.given w.previous w.count w.owed w.jobs d u out → Grew u t
        → Arrived x bytes t
    of d u (decides k request code s good is two goes_on) far grew =
        was_refused (refused_later u t (the_call x) grew
        (refused_then x g w.client [] w.jobs 0 w.given 0 k request code s u d is two goes_on))
    of d u (reads_the_end k request s good none whole two goes_on) far grew =
        was_kept s (after_read 0 true [] k) w.given w.client [] w.jobs two
        (keeps_whole x g bytes w.client w.given w.previous w.count w.owed k w.within good whole)
        (grew_on s u t (grew_turn (dispatching g) 0 _ d s u goes_on.0 job_quiet goes_on.1) grew)
    of d u (waits_for_more k request good none part two is) far grew = absurd far
