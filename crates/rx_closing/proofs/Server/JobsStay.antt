-- A call that a handler has, has a job among those of its dispatcher that stay, and no other call has.
use Rattle.std.proofs.Common.{◌≡◌, ◌∷◌, ◌++◌, ◌&&◌, ◌||◌, ℕ, ℤ, Bool, true, false, List, [], refl, ap, sym, subst, ◌∙◌}
use Rattle.std.proofs.Common.{Option, Some, None, option_map, Result, length, take}
use Rattle.rx_model.specs.declared.answers.ServeRead.{ServeRead}
use Rattle.rx_model.specs.declared.answers.ServeRefused.{ServeRefused}
use Rattle.rx_model.specs.declared.event.Event.{Event}
use Rattle.rx_model.specs.declared.event.Event.TheVariants as events
use Rattle.rx_model.specs.declared.names.CallName.{CallName}
use Rattle.rx_model.specs.Names.{same_name}
use Rattle.rx_model.proofs.NameLaws.{name_is, name_itself}
use Rattle.rx_rules.specs.After.{looks}
use Rattle.rx_rules.specs.Life.{Life, after_accept, is_handled, is_waiting}
use Rattle.rx_rules.specs.Life as lives
use Rattle.rx_rules.specs.Looks.{CallRecord, Looks, call_at, on_life}
use Rattle.rx_rules.specs.Rules.{AllowedServer, Legal, served_read, served_write}
use Rattle.rx_rules.specs.Setup.{FitsSetup, IsServer, Setup}
use Rattle.rx_history.specs.Counts.{Once}
use Rattle.rx_history.specs.Starts.{StartsOnce}
use Rattle.rx_history.proofs.Laws.OnceLaw.{is_call-some, waits as answer_waits}
use Rattle.rx_jobs.specs.declared.job.TheConstants.{OFFER_BYTES}
use Rattle.rx_jobs.specs.declared.job.Want.{Want}
use Rattle.rx_jobs.specs.declared.job.Want.TheVariants as wants
use Rattle.rx_jobs.specs.Dispatching.{Turning, accepts, dispatching, heard_accept, left, over, serves, settle}
use Rattle.rx_jobs.specs.Handlers.{Handlers}
use Rattle.rx_jobs.specs.History.{calls_of, life_of}
use Rattle.rx_jobs.specs.Jobs.{Ask, IsCall, JobState, Moving, ask_of, begun, is_staying, serving, want_in}
use Rattle.rx_jobs.specs.Jobs as asks
use Rattle.rx_jobs.specs.Lives.{Lives}
use Rattle.rx_jobs.proofs.Driving.{Differ, Lived, drives_lived, calls-append}
use Rattle.rx_jobs.proofs.LifeKeeps.{wanted}
use Rattle.rx_plan.specs.Answering.{AreServable}
use Rattle.rx_plan.proofs.Finishing.{once_before, serves_drives}
use Rattle.rx_plan.proofs.Handling.{IsQuiet, Serves, accepts_fresh, heard-call}
use Rattle.rx_plan.proofs.Handling as handling
use Rattle.rx_plan.proofs.Passing.{AcceptsFresh, own_changed}
use Rattle.rx_closing.proofs.Server.FirstsHold.{is_among}
use Rattle.rx_closing.proofs.Server.HandlerKeeps.{handler_keeps, has_handler}
use Rattle.rx_closing.proofs.Server.JobAnswers.{finish_none, read_stays, rule, write_stays}
use Rattle.rx_closing.proofs.Server.StayingJobs.{IsApart, among_append, asks_stays, differ_alone}
use Rattle.rx_closing.proofs.Server.StayingJobs.{is_some_call, left_among, proceed_calls, settle_calls, staying_calls}

module _ (g : Handlers) (s : Setup) (server : IsServer s.kind) (fits : FitsSetup s) (servable : AreServable g)
    (c : CallName) where
  -- the call has a job that stays where a handler has it
  abbrev pub Holds : Turning → List Event → Type 0
  Holds t h = is_among c (staying_calls t) ≡ has_handler (call_at (looks s h) c)

  -- ---- each event

  -- an accept
  accept_holds : (jobs : List JobState) (got : Option CallName) (h : List Event)
      → Legal s (events.Accepted got ∷ h) → StartsOnce s (events.Accepted got ∷ h) c → Holds (accepts jobs) h
      → Holds (heard_accept g jobs got) (events.Accepted got ∷ h)
  accept_holds jobs None h legal once holds = ap (is_among c) (proceed_calls g jobs) ∙ holds
  accept_holds jobs (Some d) h legal once holds =
      ap (is_among c) (calls-append jobs (begun d ∷ [])) ∙ among_append c (calls_of jobs) (d ∷ [])
      ∙ by (same_name d c) refl
    where
      l : Looks
      l = looks s h

      taking : CallRecord → CallRecord
      taking k = record k { life = after_accept k.life }

      or_false : (b : Bool) → (b || false) ≡ b
      or_false true = refl
      or_false false = refl

      or_true : (b : Bool) → (b || true) ≡ true
      or_true true = refl
      or_true false = refl

      -- it waited
      taken : d ≡ c → has_handler (call_at (on_life d after_accept l) c) ≡ true
      taken own =
          let found = is_call-some (call_at l d)
          (answer_waits s l d (rule g s server fits servable c (events.Accepted (Some d)) h legal)) in
          ap (λ (x : CallName). has_handler (call_at (on_life d after_accept l) x)) (sym own)
          ∙ ap has_handler (own_changed d taking l (λ k. refl) ∙ ap (option_map taking) found.1)
          ∙ handled found.0.life found.2
        where
          handled : (x : Life) → is_waiting x ≡ true → is_handled (after_accept x) ≡ true
          handled lives.Waiting is = refl
          handled _ is = absurd cc

      by : (b : Bool) → same_name d c ≡ b
          → (is_among c (calls_of jobs) || (b || false)) ≡ has_handler (call_at (on_life d after_accept l) c)
      by true same = or_true (is_among c (calls_of jobs)) ∙ sym (taken (name_is d c same))
      by false other =
          or_false (is_among c (calls_of jobs)) ∙ holds
          ∙ sym (handler_keeps s h (events.Accepted (Some d)) c server fits legal once
          (λ is. (
          let same : d ≡ c = cc in
          let wrong : ◌≡◌ {A = Bool} true false = sym (name_itself d) ∙ ap (same_name d) same ∙ other in
          cc (wrong))) (λ code got is. cc))

  -- what a job asks for a call: an event that is none of another's
  record Of (d : CallName) (e : Event) : Type 0 where
    accept : (c2 : CallName) → e ≡ events.Accepted (Some c2) → ⊥
    finish : (c2 : CallName) (code : ℤ) (got : Result (Unit {0}) ServeRefused) → e ≡ events.Finished c2 code got
        → c2 ≡ d

  of_want : (j : JobState) (w : Want) (e : Event) → IsCall (ask_of j w) e → Of j.call e
  of_want j wants.Read e call =
      subst (Of j.call) (sym call.2)
      (record { accept = λ c2 is. cc; finish = λ c2 code got is. absurd cc })
  of_want j wants.Write e call =
      subst (Of j.call) (sym call.1)
      (record { accept = λ c2 is. cc; finish = λ c2 code got is. absurd cc })
  of_want j (wants.Finish code) e call =
      subst (Of j.call) (sym call.1)
      (record { accept = λ c2 is. cc; finish = λ c2 code2 got is. cc })

  -- ---- the event of a job

  module _ (done : List JobState) (m : Moving) (todo : List JobState) (a : Ask) (e : Event) (h : List Event)
      (asked : (serving g).asks m ≡ Some a) (call : IsCall a e) (legal : Legal s (e ∷ h))
      (once : StartsOnce s (e ∷ h) c) (fresh : AcceptsFresh c h) (lived : Lived g h (serves done m todo))
      (holds : Holds (serves done m todo) h) where
    abbrev d : CallName
    d = m.job.call

    abbrev after_it : Moving
    after_it = (serving g).heard m e

    -- the calls of a turn at a place
    split : (x : Moving) → is_among c (calls_of done ++ (calls_of (left x) ++ calls_of todo))
        ≡ (is_among c (calls_of done) || ((is_staying x.phase && same_name x.job.call c) || is_among c (calls_of todo)))
    split x =
        among_append c (calls_of done) (calls_of (left x) ++ calls_of todo)
        ∙ ap (λ (b : Bool). is_among c (calls_of done) || b)
        (among_append c (calls_of (left x)) (calls_of todo)
        ∙ ap (λ (b : Bool). b || is_among c (calls_of todo)) (left_among c x))

    w : (w : Want) × (want_in m.phase m.job ≡ Some w) × (ask_of m.job w ≡ a)
    w = wanted m.job (want_in m.phase m.job) a asked

    event_of : Of d e
    event_of = of_want m.job w.0 e (subst (λ (x : Ask). IsCall x e) (sym w.2) call)

    -- of another call
    other_holds : same_name d c ≡ false → Holds (settle g done after_it todo) (e ∷ h)
    other_holds other =
        ap (is_among c) (settle_calls g done after_it todo) ∙ split after_it
        ∙ ap (λ (b : Bool). is_among c (calls_of done) || (b || is_among c (calls_of todo)))
        (none after_it (heard-call g m.job e) ∙ sym (none m refl))
        ∙ sym (split m) ∙ holds
        ∙ sym (handler_keeps s h e c server fits legal once (event_of.accept c)
        (λ code got is. (
        let same : c ≡ d = event_of.finish c code got is in
        let wrong : ◌≡◌ {A = Bool} true false =
        sym (name_itself c) ∙ ap (λ (x : CallName). same_name x c) same ∙ other in cc (wrong))))
      where
        none : (x : Moving) → x.job.call ≡ d → (is_staying x.phase && same_name x.job.call c) ≡ false
        none x own =
            ap (λ (n : CallName). is_staying x.phase && same_name n c) own
            ∙ ap (λ (b : Bool). is_staying x.phase && b) other ∙ by (is_staying x.phase)
          where
            by : (b : Bool) → (b && false) ≡ false
            by true = refl
            by false = refl

    -- of the call itself
    own_holds : d ≡ c → Holds (settle g done after_it todo) (e ∷ h)
    own_holds own =
        ap (is_among c) (settle_calls g done after_it todo) ∙ split after_it
        ∙ alone after_it ∙ ap (λ (n : CallName). is_staying after_it.phase && same_name n c)
        (heard-call g m.job e ∙ own)
        ∙ ap (λ (b : Bool). is_staying after_it.phase && b) (name_itself c) ∙ and_true (is_staying after_it.phase)
        ∙ phase_is w.0 (subst (λ (x : Ask). IsCall x e) (sym w.2) call) (asked ∙ ap Some (sym w.2))
      where
        and_true : (b : Bool) → (b && true) ≡ b
        and_true true = refl
        and_true false = refl

        apart : IsApart c (calls_of done) (calls_of todo)
        apart = differ_alone c (calls_of done) (calls_of todo)
            (subst (λ (n : CallName). Differ (calls_of done ++ n ∷ calls_of todo)) own lived.3)

        -- only its own job counts
        alone : (x : Moving)
            → (is_among c (calls_of done) || ((is_staying x.phase && same_name x.job.call c) || is_among c
            (calls_of todo)))
            ≡ (is_staying x.phase && same_name x.job.call c)
        alone x =
            ap (λ (b : Bool). b || ((is_staying x.phase && same_name x.job.call c) || is_among c (calls_of todo)))
            apart.front
            ∙ ap (λ (b : Bool). (is_staying x.phase && same_name x.job.call c) || b) apart.back
            ∙ or_false (is_staying x.phase && same_name x.job.call c)
          where
            or_false : (b : Bool) → (b || false) ≡ b
            or_false true = refl
            or_false false = refl

        -- a handler has the call
        before : has_handler (call_at (looks s h) c) ≡ true
        before =
            sym holds ∙ split m ∙ alone m
            ∙ ap (λ (b : Bool). b && same_name d c) (asks_stays g m a asked)
            ∙ ap (λ (n : CallName). same_name n c) own ∙ name_itself c

        found : (r : CallRecord) × (call_at (looks s h) c ≡ Some r) × (is_handled r.life ≡ true)
        found = is_some_call (call_at (looks s h) c) before

        kept_ : ((code : ℤ) (got : Result (Unit {0}) ServeRefused) → e ≡ events.Finished c code got → ⊥)
            → has_handler (call_at (looks s (e ∷ h)) c) ≡ true
        kept_ no_finish = handler_keeps s h e c server fits legal once (event_of.accept c) no_finish ∙ before

        life_here : Lives g c (life_of c h) m
        life_here = subst (λ (n : CallName). Lives g n (life_of n h) m) own lived.1

        phase_is : (v : Want) → IsCall (ask_of m.job v) e → (serving g).asks m ≡ Some (ask_of m.job v)
            → is_staying after_it.phase ≡ has_handler (call_at (looks s (e ∷ h)) c)
        phase_is wants.Read is asks_it =
            let answer : ◌≡◌ {A = ServeRead × List ℕ} (is.0, is.1) (served_read (Some found.0) OFFER_BYTES) =
            (subst (λ (x : Event). AllowedServer s (looks s h) x) is.2 (rule g s server fits servable c e h legal)).1
            ∙ ap (λ (n : CallName). served_read (call_at (looks s h) n) OFFER_BYTES) own
            ∙ ap (λ (o : Option CallRecord). served_read o OFFER_BYTES) found.1 in
            ap (λ (x : Event). is_staying ((serving g).heard m x).phase) is.2
            ∙ read_stays g s server fits servable c found.0 is.0 is.1 found.2 answer m.job
            ∙ sym (kept_ (λ code got same. (let both = sym is.2 ∙ same in cc (both))))
        phase_is wants.Write is asks_it =
            let offer : List ℕ = take OFFER_BYTES m.job.reply in
            let answer : is.0 ≡ served_write s (looks s h) (Some found.0) (length offer) =
            (subst (λ (x : Event). AllowedServer s (looks s h) x) is.1 (rule g s server fits servable c e h legal)).0
            ∙ ap (λ (n : CallName). served_write s (looks s h) (call_at (looks s h) n) (length offer)) own
            ∙ ap (λ (o : Option CallRecord). served_write s (looks s h) o (length offer)) found.1 in
            ap (λ (x : Event). is_staying ((serving g).heard m x).phase) is.1
            ∙ write_stays g s server fits servable c found.0 (looks s h) (length offer) is.0 found.2 answer m.job
            ∙ sym (kept_ (λ code got same. (let both = sym is.1 ∙ same in cc (both))))
        phase_is (wants.Finish code) is asks_it =
            let event : e ≡ events.Finished c code is.0 =
            is.1 ∙ ap (λ (n : CallName). events.Finished n code is.0) own in
            let asks_own : (serving g).asks m ≡ Some (asks.finish c code) =
            asks_it ∙ ap (λ (n : CallName). Some (asks.finish n code)) own in
            ap (λ (x : Event). is_staying ((serving g).heard m x).phase) is.1
            ∙ sym (ap (λ (x : Event). has_handler (call_at (looks s (x ∷ h)) c)) event
            ∙ finish_none g s server fits servable c h m code is.0 found.0
            (subst (λ (x : Event). Legal s (x ∷ h)) event legal) once.1 fresh found.1
            found.2 life_here asks_own)

    job_holds : Holds (settle g done after_it todo) (e ∷ h)
    job_holds = by (same_name d c) refl
      where
        by : (b : Bool) → same_name d c ≡ b → Holds (settle g done after_it todo) (e ∷ h)
        by true same = own_holds (name_is d c same)
        by false other = other_holds other

  makes_holds : (t : Turning) (a : Ask) (e : Event) (h : List Event) → (dispatching g).asks t ≡ Some a → IsCall a e
      → Legal s (e ∷ h) → StartsOnce s (e ∷ h) c → AcceptsFresh c h → Lived g h t → Holds t h
      → Holds ((dispatching g).heard t e) (e ∷ h)
  makes_holds (accepts jobs) a e h asked call legal once fresh lived holds =
      let one : asks.accept ≡ a = cc in
      let is : (got : Option CallName) × (e ≡ events.Accepted got) =
      subst (λ (x : Ask). IsCall x e) (sym one) call in
      subst (λ (x : Event). Holds ((dispatching g).heard (accepts jobs) x) (x ∷ h)) (sym is.1)
      (accept_holds jobs is.0 h (subst (λ (x : Event). Legal s (x ∷ h)) is.1 legal)
      (subst (λ (x : Event). StartsOnce s (x ∷ h) c) is.1 once) holds)
  makes_holds (serves done m todo) a e h asked call legal once fresh lived holds =
      job_holds done m todo a e h asked call legal once fresh lived holds
  makes_holds (over jobs) a e h asked call legal once fresh lived holds = absurd cc

  quiet_accept : (e : Event) → IsQuiet e → e ≡ events.Accepted (Some c) → ⊥
  quiet_accept e quiet is = subst IsQuiet is quiet

  quiet_finish : (e : Event) (code : ℤ) (got : Result (Unit {0}) ServeRefused) → IsQuiet e
      → e ≡ events.Finished c code got → ⊥
  quiet_finish e code got quiet is = subst IsQuiet is quiet

  pub jobs_hold : {t : Turning} {h : List Event} → Serves g t h → Legal s h → Once h → StartsOnce s h c → Holds t h
  jobs_hold handling.starts legal once starts = refl
  jobs_hold (handling.begins jobs h sv) legal once starts = jobs_hold sv legal once starts
  jobs_hold (handling.makes t a e h asked call sv) legal once starts =
      let before : Once h = once_before e h once in
      makes_holds t a e h asked call legal starts (accepts_fresh g c sv (before c))
      (drives_lived g t h (serves_drives g s sv server legal.1 before)) (jobs_hold sv legal.1 before starts.1)
  jobs_hold (handling.leaves t e h quiet sv) legal once starts =
      jobs_hold sv legal.1 (once_before e h once) starts.1
      ∙ sym (handler_keeps s h e c server fits legal starts (quiet_accept e quiet)
      (λ code got. quiet_finish e code got quiet))
