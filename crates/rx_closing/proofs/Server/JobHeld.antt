-- The jobs of a dispatcher at any moment: a call that a handler has, has exactly one job, which fits what passed at its
-- server's end; any other call has none.
use Rattle.std.proofs.Common.{◌≡◌, inl, inr, ◌∷◌, ◌++◌, ◌||◌, cond, ℕ, ℤ, Bool, true, false, List, [], refl, ap, sym}
use Rattle.std.proofs.Common.{subst, ◌∙◌, Option, Some, None, ◌+◌, arith}
use Rattle.rx_model.specs.declared.event.Event.{Event}
use Rattle.rx_model.specs.declared.names.CallName.{CallName}
use Rattle.rx_model.specs.Names.{same_name}
use Rattle.rx_model.proofs.NameLaws.{name_is, name_sym, neither}
use Rattle.rx_rules.specs.After.{is_zero, looks}
use Rattle.rx_rules.specs.Looks.{CallRecord, call_at}
use Rattle.rx_rules.specs.Rules.{Legal}
use Rattle.rx_rules.specs.Setup.{FitsSetup, IsServer, Setup}
use Rattle.rx_rules.proofs.EveryLaws.{Every}
use Rattle.rx_history.specs.Counts.{Once}
use Rattle.rx_history.specs.Starts.{StartsOnce}
use Rattle.rx_script.specs.Served.{refusal}
use Rattle.rx_jobs.specs.Dispatching.{over}
use Rattle.rx_jobs.specs.Handlers.{Handlers}
use Rattle.rx_jobs.specs.History.{HasKept, calls_of, life_of}
use Rattle.rx_jobs.specs.Jobs.{JobState, moving, settled, stepped, waits}
use Rattle.rx_jobs.specs.Keeping.{kept_of}
use Rattle.rx_jobs.specs.Lives.{CodeIs, Lives, bytes_read, bytes_written}
use Rattle.rx_jobs.proofs.Driving.{Differ, Lived, Waits, drives_lived}
use Rattle.rx_jobs.proofs.KeptTurns.{drives_kept}
use Rattle.rx_jobs.proofs.LifeKeeps.{Coded, Keeps, lives_keep}
use Rattle.rx_plan.specs.Answering.{AreServable}
use Rattle.rx_plan.proofs.Finishing.{serves_drives}
use Rattle.rx_plan.proofs.Handling.{Serves, accepts_fresh}
use Rattle.rx_plan.proofs.Passed.{Passed, passed_of}
use Rattle.rx_plan.proofs.Passing.{AcceptsFresh, passes_told, told_of}
use Rattle.rx_rounds.proofs.Refusals.Codes.{served_no_zero}
use Rattle.rx_closing.proofs.Server.FirstsHold.{is_among}
use Rattle.rx_closing.proofs.Server.HandlerKeeps.{has_handler}
use Rattle.rx_closing.proofs.Server.JobSeen.{AreOthers}
use Rattle.rx_closing.proofs.Server.JobsStay.{jobs_hold}
use Rattle.rx_closing.proofs.Server.OneJob.{JobsFit, OneJob, none_fits, one_fits}
use Rattle.rx_closing.proofs.Server.OwnStep.{settled_as, waits_none}
use Rattle.rx_closing.proofs.Server.StayingJobs.{apart_none, is_some_call}
use Rattle.rx_law.proofs.Law.{zero-code}

module _ (g : Handlers) (s : Setup) (server : IsServer s.kind) (fits : FitsSetup s) (servable : AreServable g)
    (c : CallName) where
  -- ---- the job of the call

  -- what it is by what passed at the server's end: it has what is kept of the bytes read, it read the end where the
  -- call did, and what it decided is its request's; a reply is what was said and what is to be said
  pub record IsHeld (r : CallRecord) (j : JobState) : Type 0 where
    pub request : j.request ≡ kept_of g r.looks.received.read
    pub ended : j.ended ≡ r.looks.received.ended
    pub coded :
        (code : ℤ) → j.code ≡ Some code
        → Coded g r.looks.received.read r.looks.sent.said j.reply j.ended (Some code)
    pub zero_ : (code : ℤ) → j.code ≡ Some code → is_zero code ≡ true → j.ended ≡ true

  -- a code of 0 is decided behind the end alone
  coded_zero : (read said reply : List ℕ) (ended : Bool) (code : ℤ) → Coded g read said reply ended (Some code)
      → is_zero code ≡ true → ended ≡ true
  coded_zero read said reply ended code (inr x) zero_ = x.1
  coded_zero read said reply ended code (inl x) zero_ = by ended x.2
    where
      by : (b : Bool) → CodeIs g read b code → b ≡ true
      by true is = refl
      by false is =
          absurd (served_no_zero g (read ++ []) servable
          (is [] (λ i. omega arith) ∙ ap refusal (zero-code code zero_)))

  held_job : (h : List Event) (r : CallRecord) (j : JobState) → Legal s h → StartsOnce s h c → AcceptsFresh c h
      → call_at (looks s h) c ≡ Some r → j.call ≡ c → Waits g h j → HasKept g h j → IsHeld r j
  held_job h r j legal once fresh there own life has =
      record {
        request =
            has ∙ ap (λ (n : CallName). kept_of g (bytes_read (life_of n h))) own
            ∙ ap (λ (p : Passed). kept_of g p.read) (sym told);
        ended = ended_is (waits j) refl;
        coded = λ code is. coded_is code is (waits j) refl;
        zero_ = λ code is zero_. coded_zero r.looks.received.read r.looks.sent.said j.reply j.ended code
            (coded_is code is (waits j) refl) zero_;
      }
    where
      told : passed_of (Some r) ≡ told_of (life_of c h)
      told = ap passed_of (sym there) ∙ passes_told s h c server legal once fresh

      keeps : Keeps g c (life_of c h) (stepped g j)
      keeps =
          (lives_keep g c (life_of c h) (moving g j)
          (subst (λ (n : CallName). Lives g n (life_of n h) (moving g j)) own life)).keeps

      step_is : (b : Bool) → waits j ≡ b → stepped g j ≡ cond b (settled g (j.steps + 1) j) j
      step_is b is = ap (λ (x : Bool). cond x (settled g (j.steps + 1) j) j) is

      ended_is : (b : Bool) → waits j ≡ b → j.ended ≡ r.looks.received.ended
      ended_is true is =
          sym (ap (λ (i : JobState). i.ended) (step_is true is) ∙ (settled_as g (j.steps + 1) j).ended)
          ∙ keeps.ended ∙ ap (λ (p : Passed). p.ended) (sym told)
      ended_is false is =
          sym (ap (λ (i : JobState). i.ended) (step_is false is)) ∙ keeps.ended
          ∙ ap (λ (p : Passed). p.ended) (sym told)

      coded_is : (code : ℤ) → j.code ≡ Some code → (b : Bool) → waits j ≡ b
          → Coded g r.looks.received.read r.looks.sent.said j.reply j.ended (Some code)
      coded_is code coded true is =
          absurd (let none = (waits_none j is).1 in
          let wrong : ◌≡◌ {A = Option ℤ} (Some code) None = sym coded ∙ none in cc (wrong))
      coded_is code coded false is =
          subst (λ (p : Passed). Coded g p.read p.said j.reply j.ended (Some code)) (sym told)
          (subst (λ (o : Option ℤ). Coded g (bytes_read (life_of c h)) (bytes_written (life_of c h)) j.reply j.ended o)
          coded
          (subst (λ (i : JobState). Coded g (bytes_read (life_of c h)) (bytes_written (life_of c h)) i.reply
          i.ended i.code)
          (step_is false is) keeps.coded))

  -- one of the jobs is the call's, or none is
  others_of : (jobs : List JobState) → is_among c (calls_of jobs) ≡ false → AreOthers c jobs
  others_of [] none = tt
  others_of (j ∷ js) none =
      let parts = neither (same_name j.call c) (is_among c (calls_of js)) none in
      (name_sym c j.call ∙ parts.0, others_of js parts.1)

  one_of : (jobs : List JobState) → Differ (calls_of jobs) → is_among c (calls_of jobs) ≡ true → OneJob c jobs
  one_of [] differ among = absurd cc
  one_of (j ∷ js) differ among = by (λ rest. one_of js differ.1 rest) (same_name j.call c) refl among
    where
      by : (is_among c (calls_of js) ≡ true → OneJob c js) → (b : Bool) → same_name j.call c ≡ b
          → (b || is_among c (calls_of js)) ≡ true → OneJob c (j ∷ js)
      by again true same there =
          let own : j.call ≡ c = name_is j.call c same in
          record {
            front = [];
            job = j;
            back = js;
            are = refl;
            own = own;
            before = tt;
            behind =
                others_of js (apart_none c (calls_of js)
                (subst (λ (n : CallName). Every (λ d. same_name d n ≡ false) (calls_of js)) own differ.0));
          }
      by again false other there =
          let o : OneJob c js = again there in
          record {
            front = j ∷ o.front;
            job = o.job;
            back = o.back;
            are = ap (λ (xs : List JobState). j ∷ xs) o.are;
            own = o.own;
            before = (name_sym c j.call ∙ other, o.before);
            behind = o.behind;
          }

  every_at : (P : JobState → Type 0) (front : List JobState) (j : JobState) (back : List JobState)
      → Every P (front ++ j ∷ back) → P j
  every_at P [] j back all = all.0
  every_at P (x ∷ front) j back all = every_at P front j back all.1

  -- the one job of a call is held so
  pub one_held : (jobs : List JobState) (h : List Event) (r : CallRecord) → Serves g (over jobs) h → Legal s h → Once h
      → StartsOnce s h c → call_at (looks s h) c ≡ Some r → (one : OneJob c jobs) → IsHeld r one.job
  one_held jobs h r sv legal once starts there one =
      let drives = serves_drives g s sv server legal once in
      let lived : Lived g h (over jobs) = drives_lived g (over jobs) h drives in
      let has : Every (HasKept g h) jobs = drives_kept g (over jobs) h drives in
      held_job h r one.job legal starts (accepts_fresh g c sv (once c)) there one.own
      (every_at (Waits g h) one.front one.job one.back (subst (Every (Waits g h)) one.are lived.0))
      (every_at (HasKept g h) one.front one.job one.back (subst (Every (HasKept g h)) one.are has))

  -- behind a turn of the dispatcher and between its turns
  pub jobs_fit : (jobs : List JobState) (h : List Event) → Serves g (over jobs) h → Legal s h → Once h
      → StartsOnce s h c → JobsFit c (call_at (looks s h) c) jobs
  jobs_fit jobs h sv legal once starts = by (has_handler (call_at (looks s h) c)) refl
    where
      holds : is_among c (calls_of jobs) ≡ has_handler (call_at (looks s h) c)
      holds = jobs_hold g s server fits servable c sv legal once starts

      differ : Differ (calls_of jobs)
      differ = (drives_lived g (over jobs) h (serves_drives g s sv server legal once)).1

      by : (b : Bool) → has_handler (call_at (looks s h) c) ≡ b → JobsFit c (call_at (looks s h) c) jobs
      by false none = none_fits (others_of jobs (holds ∙ none)) none
      by true some =
          let found = is_some_call (call_at (looks s h) c) some in
          let one : OneJob c jobs = one_of jobs differ (holds ∙ some) in
          let held : IsHeld found.0 one.job = one_held jobs h found.0 sv legal once starts found.1 one in
          one_fits found.0 found.1 found.2 one held.ended held.zero_
