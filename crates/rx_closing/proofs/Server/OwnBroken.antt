-- What the step of a job makes of its own call where that broke: it is told so, and the call is over; or it waits a
-- step more.
use Rattle.std.proofs.Common.{◌≡◌, ◌<◌, ◌+◌, ◌&&◌, cond, not, is_some, ℕ, ℤ, pos, Bool, true, false, List, [], length}
use Rattle.std.proofs.Common.{take, refl, ap, sym, subst, ◌∙◌, Option, Some, None, option_map, Result, Err}
use Rattle.rx_model.specs.declared.answers.ReadGot.TheVariants as readers
use Rattle.rx_model.specs.declared.answers.ServeRead.{ServeRead}
use Rattle.rx_model.specs.declared.answers.ServeRead.TheVariants as reads
use Rattle.rx_model.specs.declared.answers.ServeRefused.{ServeRefused}
use Rattle.rx_model.specs.declared.answers.ServeRefused.TheVariants as refusals
use Rattle.rx_model.specs.declared.answers.WroteGot.TheVariants as writers
use Rattle.rx_model.specs.declared.event.Event.{Event}
use Rattle.rx_model.specs.declared.event.Event.TheVariants as events
use Rattle.rx_model.specs.declared.names.CallName.{CallName}
use Rattle.rx_rules.specs.CallLooks.{CallLooks, after_read, after_write}
use Rattle.rx_rules.specs.Life.{Life}
use Rattle.rx_rules.specs.Life as lives
use Rattle.rx_rules.specs.Setup.{IsServer}
use Rattle.rx_history.specs.Sides.{Node}
use Rattle.rx_jobs.specs.declared.job.Phase.TheVariants as phases
use Rattle.rx_jobs.specs.declared.job.TheConstants.{OFFER_BYTES}
use Rattle.rx_jobs.specs.declared.job.Want.{Want}
use Rattle.rx_jobs.specs.declared.job.Want.TheVariants as wants
use Rattle.rx_jobs.specs.Dispatching.{left}
use Rattle.rx_jobs.specs.Handlers.{Handlers, wait_of}
use Rattle.rx_jobs.specs.Jobs.{JobState, Moving, accepted, ask_of, moving, next_want, serving, settled, waits}
use Rattle.rx_jobs.specs.Jobs as asks
use Rattle.rx_plan.specs.Stages.{Stage, with_event}
use Rattle.rx_closing.proofs.Server.JobSteps.{StepGoes, step_asks, step_rests}
use Rattle.rx_closing.proofs.Server.OwnEvents.{At, finish_got, gone_at, read_at, read_got, write_at, write_got}
use Rattle.rx_closing.proofs.Server.OwnStep.{settled_as, settled_is}
use Rattle.rx_closing.proofs.Steps.{TurnsOn, turns_none, turns_read, turns_write}

module _ (g : Handlers) (node : Node) (serves : IsServer node.setup.kind) (c : CallName) (now : ℕ) (broken : ℤ)
    (n : Moving) (t : Stage) where
  abbrev Here : Stage → Life → CallLooks → Type 0
  Here s x k = At node serves c now s x k

  abbrev moves : JobState → Moving
  moves j = record { job = j; phase = phases.Moves }

  abbrev quits : JobState → Moving
  quits j = record { job = j; phase = phases.Quits }

  abbrev gone : JobState → Moving
  gone j = record { job = j; phase = phases.Gone }

  -- it finishes, is told that the call broke, and goes
  finish_over : (m : Moving) (code : ℤ) (s : Stage) (k : CallLooks) → m.job.call ≡ c
      → (serving g).asks m ≡ Some (asks.finish m.job.call code) → Here s (lives.Broken broken) k → StepGoes g m s n t
      → Here t (lives.Over (Some broken)) k × (left n ≡ [])
  finish_over m code s k own asked at step =
      let r = step_asks g m (asks.finish m.job.call code) s n t asked step in
      let got : Result (Unit {0}) ServeRefused = r.allowed.0.0 in
      let event : r.event ≡ events.Finished c code got =
      r.allowed.0.1 ∙ ap (λ (d : CallName). events.Finished d code got) own in
      let got_is : got ≡ Err (refusals.Gone broken) =
      finish_got node serves c now s k (lives.Broken broken) r.event code got at event r.allowed.1 in
      let is : r.event ≡ events.Finished c code (Err (refusals.Gone broken)) =
      event ∙ ap (λ (x : Result (Unit {0}) ServeRefused). events.Finished c code x) got_is in
      let over : (n ≡ gone m.job) × (t ≡ with_event 0 r.event s) =
      step_rests g (gone m.job) (with_event 0 r.event s) n t refl
      (subst (λ (x : Moving). StepGoes g x (with_event 0 r.event s) n t)
      (ap (λ (e : Event). (serving g).heard m e) event) r.then_) in (
        subst (λ (u : Stage). Here u (lives.Over (Some broken)) k) (sym over.1)
            (gone_at node serves c now s k broken r.event code broken at is r.allowed.1),
        ap (λ (m : Moving). left m) over.0,
      )

  -- how its step ends
  pub data BrokenEnds (j : JobState) (k : CallLooks) (s : Stage) : Type 0 where
    is_told : (f : CallLooks) → TurnsOn now k f → Here t (lives.Over (Some broken)) f → left n ≡ [] → BrokenEnds j k s
    waits_longer : n ≡ moves (record j { steps = j.steps + 1 }) → t ≡ s → waits j ≡ true
        → j.steps + 1 < wait_of g j.request → BrokenEnds j k s

  -- it is told by a read, by a write, or as it finishes
  told_by : (j i : JobState) (k : CallLooks) (s : Stage) → i.call ≡ c → Here s (lives.Broken broken) k
      → StepGoes g (moves i) s n t → (w : Want) → next_want i i.code ≡ Some w → BrokenEnds j k s
  told_by j i k s own at step wants.Read want =
      let r = step_asks g (moves i) (asks.read i.call) s n t (ap (option_map (ask_of i)) want) step in
      let event : r.event ≡ events.HasRead c OFFER_BYTES (readers.Server r.allowed.0.0) r.allowed.0.1 =
      r.allowed.0.2 ∙ ap (λ (d : CallName). events.HasRead d OFFER_BYTES (readers.Server r.allowed.0.0)
      r.allowed.0.1) own
      in
      let pair : ◌≡◌ {A = ServeRead × List ℕ} (r.allowed.0.0, r.allowed.0.1) (reads.Gone broken, []) =
      read_got node serves c now s k (lives.Broken broken) r.event r.allowed.0.0 r.allowed.0.1 at event r.allowed.1 in
      let is : r.event ≡ events.HasRead c OFFER_BYTES (readers.Server (reads.Gone broken)) [] =
      event ∙ ap (λ (p : ServeRead × List ℕ). events.HasRead c OFFER_BYTES (readers.Server p.0) p.1) pair in
      let k2 : CallLooks = after_read now false [] k in
      let at2 : Here (with_event 0 r.event s) (lives.Broken broken) k2 =
      read_at node serves c now s k (lives.Broken broken) (lives.Broken broken) r.event
      (reads.Gone broken) [] false at is
      refl refl r.allowed.1 in
      let over = finish_over (quits i) (pos 0) (with_event 0 r.event s) k2 own refl at2
      (subst (λ (x : Moving). StepGoes g x (with_event 0 r.event s) n t)
      (ap (λ (e : Event). (serving g).heard (moves i) e) is) r.then_) in
      is_told k2 (turns_read k k2 false [] (turns_none k2)) over.0 over.1
  told_by j i k s own at step wants.Write want =
      let offer : List ℕ = take OFFER_BYTES i.reply in
      let r = step_asks g (moves i) (asks.write i.call offer) s n t (ap (option_map (ask_of i)) want) step in
      let got : Result ℕ ServeRefused = r.allowed.0.0 in
      let event : r.event ≡ events.Wrote c (length offer) (writers.Server got) (accepted offer got) =
      r.allowed.0.1 ∙ ap (λ (d : CallName). events.Wrote d (length offer) (writers.Server got) (accepted offer got)) own
      in
      let got_is : got ≡ Err (refusals.Gone broken) =
      write_got node serves c now s k (lives.Broken broken) r.event offer got at event r.allowed.1 in
      let is : r.event ≡ events.Wrote c (length offer) (writers.Server (Err (refusals.Gone broken))) [] =
      event ∙ ap (λ (x : Result ℕ ServeRefused). events.Wrote c (length offer) (writers.Server x)
      (accepted offer x)) got_is
      in
      let k2 : CallLooks = after_write [] k in
      let at2 : Here (with_event 0 r.event s) (lives.Broken broken) k2 =
      write_at node serves c now s k (lives.Broken broken) r.event (length offer)
      (writers.Server (Err (refusals.Gone broken))) [] at is r.allowed.1 in
      let over = finish_over (quits i) (pos 0) (with_event 0 r.event s) k2 own refl at2
      (subst (λ (x : Moving). StepGoes g x (with_event 0 r.event s) n t)
      (ap (λ (e : Event). (serving g).heard (moves i) e) is) r.then_) in
      is_told k2 (turns_write k k2 [] (turns_none k2)) over.0 over.1
  told_by j i k s own at step (wants.Finish code) want =
      let over = finish_over (moves i) code s k own (ap (option_map (ask_of i)) want) at step in
      is_told k (turns_none k) over.0 over.1

  -- one that waits asks nothing
  idle_or : (i : JobState) → (next_want i i.code ≡ None → waits i ≡ true)
  idle_or i = of i.code i.ended
    where
      of : (o : Option ℤ) (b : Bool) → next_want (record i { ended = b }) o ≡ None → (b && not (is_some o)) ≡ true
      of (Some code) b none = absurd cc
      of None true none = refl
      of None false none = absurd cc

  -- the step of a job of a call that broke
  pub broken_step : (j : JobState) (k : CallLooks) (s : Stage) → j.call ≡ c → Here s (lives.Broken broken) k
      → StepGoes g (moving g j) s n t → BrokenEnds j k s
  broken_step j k s own at step = by (waits j) refl step
    where
      goes_with : (i : JobState) → i.call ≡ c → (waits i ≡ true → next_want i i.code ≡ None → BrokenEnds j k s)
          → StepGoes g (moves i) s n t → BrokenEnds j k s
      goes_with i mine waiting on = of (next_want i i.code) refl
        where
          of : (o : Option Want) → next_want i i.code ≡ o → BrokenEnds j k s
          of None want = waiting (idle_or i want) want
          of (Some w) want = told_by j i k s mine at on w want

      by : (b : Bool) → waits j ≡ b → StepGoes g (moves (cond b (settled g (j.steps + 1) j) j)) s n t → BrokenEnds j k s
      by false other on =
          goes_with j own (λ still want. absurd (let wrong : ◌≡◌ {A = Bool} true false = sym still
          ∙ other in cc (wrong)))
          on
      by true still on =
          goes_with (settled g (j.steps + 1) j) ((settled_as g (j.steps + 1) j).call ∙ own) (λ more want. (
          let counted = settled_is g (j.steps + 1) j more in
          let over = step_rests g (moves (settled g (j.steps + 1) j)) s n t
          (ap (option_map (ask_of (settled g (j.steps + 1) j))) want) on in
          waits_longer (over.0 ∙ ap moves counted.0) over.1 still counted.1)) on
