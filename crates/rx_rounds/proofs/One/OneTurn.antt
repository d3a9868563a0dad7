-- The turn of a dispatcher while a request comes: it reads all that stands without a gap, and waits for more; or it
-- decides a code, or has all of the request.
use Rattle.std.proofs.Common.{◌≡◌, ◌++◌, ℕ, Bool, true, false, cond, List, [], ◌∷◌, refl, ap, subst, ◌∙◌, Option, Some}
use Rattle.std.proofs.Common.{None, length, nat_lt, arith}
use Rattle.rx_model.specs.declared.event.Event.TheVariants as events
use Rattle.rx_model.specs.declared.names.CallName.{CallName}
use Rattle.rx_rules.specs.After.{after}
use Rattle.rx_rules.specs.CallLooks.{CallLooks, after_read}
use Rattle.rx_rules.specs.Life.{Life}
use Rattle.rx_rules.specs.Life as lives
use Rattle.rx_rules.specs.Looks.{Looks}
use Rattle.rx_rules.specs.Owing.{Owed, delayed, owed_for_read}
use Rattle.rx_rules.specs.Received.{is_complete, unread_of, used_of}
use Rattle.rx_jobs.specs.Dispatching.{Turning, accepts}
use Rattle.rx_jobs.specs.Handlers.{Handlers}
use Rattle.rx_jobs.specs.Jobs.{JobState, begun}
use Rattle.rx_plan.specs.Stages.{InvokedState, Stage}
use Rattle.rx_plan.specs.Turned.{dispatches, jobs_left}
use Rattle.rx_rounds.proofs.Keeper.{keeper_at, part_read}
use Rattle.rx_rounds.proofs.One.OneCall.{Ends, from_server, node_of, server_setup, the_call}
use Rattle.rx_rounds.proofs.Two.{two_as, two_jobs}
use Rattle.rx_rounds.proofs.One.OneSteps.{server_accepted, server_accepts, server_accepts_none}
use Rattle.rx_rounds.proofs.Reading.ReadsOut.{ReadOut, decides, reads_out, reads_the_end, waits_for_more}
use Rattle.rx_rounds.proofs.Rounded.{Made, dispatch_to}
use Rattle.rx_rounds.proofs.Turned.{Serves, Serves_, serves_accept}
use Rattle.rx_rounds.proofs.Two.{Two}

module _ (x : Ends) (g : Handlers) (lc : Looks) (cs : List InvokedState) (bytes : List ℕ) (given p n : ℕ)
    (first_owed : Option Owed) where
  abbrev pub serving : Life → CallLooks → Looks
  serving life k = node_of x (from_server x given 0) (the_call x ∷ []) 0 life k

  -- nothing is owed before some time
  abbrev pub IsCalm : Option Owed → Type 0
  IsCalm None = Unit {0}
  IsCalm (Some o) = o.rank ≡ 100

  -- it kept so many pieces, and owes what it owed at once before
  pub record Keeps (k : CallLooks) : Type 0 where
    pub read : List ℕ
    pub owed : Option Owed
    pub is : k ≡ keeper_at bytes read owed p n
    pub owes : (o : Owed) → first_owed ≡ Some o → owed ≡ Some o
    pub calm : IsCalm first_owed → IsCalm owed

  pub keeps_read : (k : CallLooks) (more : List ℕ) → Keeps k → Keeps (after_read 0 false more k)
  keeps_read k more h =
      let r = part_read bytes h.read p n in
      let s = part_read bytes (h.read ++ more) p n in
      record {
        read = h.read ++ more;
        owed = owed_for_read 0 false (used_of r) (used_of s) h.owed;
        is = ap (after_read 0 false more) h.is;
        owes = λ o is. stays (nat_lt (used_of r) (used_of s)) o (h.owes o is);
        calm = λ was. still (nat_lt (used_of r) (used_of s)) h.owed (h.calm was);
      }
    where
      stays : (b : Bool) (o : Owed) → h.owed ≡ Some o → cond b (delayed 0 0 h.owed) h.owed ≡ Some o
      stays true o is = ap (delayed 0 0) is
      stays false o is = is

      still : (b : Bool) (o : Option Owed) → IsCalm o → IsCalm (cond b (delayed 0 0 o) o)
      still true None was = refl
      still true (Some o) was = was
      still false o was = was

  pub keeps_on : (k : CallLooks) (request came : List ℕ)
      → came ++ unread_of (after_read 0 false came k).received ≡ unread_of k.received → Keeps k
      → Keeps (after_read 0 false came k)
  keeps_on k request came rest h = keeps_read k came h

  pub keeps_still : (k : CallLooks) (request : List ℕ) → Keeps k → Keeps (after_read 0 false [] k)
  keeps_still k request h = keeps_read k [] h

  -- a job that has read so much of the request
  abbrev pub job_of : List ℕ → JobState
  job_of request = record (begun (the_call x)) { request = request }

  abbrev pub Reading : List JobState → Turning → Stage → Type 0
  Reading js d u = ReadOut x g lc cs js 0 given 0 (λ k request. Keeps k) keeps_on keeps_still d u

  -- the job doesn't wait
  abbrev pub IsFurther : (js : List JobState) (d : Turning) (u : Stage) → Reading js d u → Type 0
  IsFurther js d u (waits_for_more k request good none part two is) = ⊥
  IsFurther js d u (decides k request code s good is two onward) = Unit {0}
  IsFurther js d u (reads_the_end k request s good none whole two onward) = Unit {0}

  -- a turn that went on from a job that decided a code, or has the whole request
  pub record Further (js : List JobState) (t : Stage) : Type 0 where
    pub view : Turning
    pub stage : Stage
    pub out : Reading js view stage
    pub far : IsFurther js view stage out
    pub then_ : t ≡ record stage { jobs = jobs_left view }

  -- how the turn went
  pub data TurnMade (js : List JobState) (t : Stage) : Type 0 where
    -- all that stands is read, and the job waits for more
    reads_on : (k : CallLooks) (request : List ℕ) → Keeps k → unread_of k.received ≡ [] → is_complete k.received ≡ false
        → Two x (serving lives.Accepted k) lc cs (job_of request ∷ []) t → TurnMade js t
    -- it decided a code, or has the whole request: the turn goes on from there
    goes_further : (d : Turning) (u : Stage) (out : Reading js d u) → IsFurther js d u out
        → t ≡ record u { jobs = jobs_left d } → TurnMade js t

  by_reading : (js : List JobState) (d : Turning) (u t : Stage) → Reading js d u → t ≡ record u { jobs = jobs_left d }
      → TurnMade js t
  by_reading js d u t (waits_for_more k request good none part two is) same =
      reads_on k request good none part
      (two_jobs x (serving lives.Accepted k) lc cs js (job_of request ∷ []) u t
      (same ∙ ap (λ (v : Turning). record u { jobs = jobs_left v }) is) two)
  by_reading js d u t (decides k request code s good is two onward) same = goes_further d u
      (decides k request code s good is two onward) tt same
  by_reading js d u t (reads_the_end k request s good none whole two onward) same = goes_further d u
      (reads_the_end k request s good none whole two onward) tt same

  -- the first: the call is accepted
  pub turn_first : (k : CallLooks) (s t : Stage) → Keeps k → Two x (serving lives.Waiting k) lc cs [] s
      → Made (dispatches g) s t → TurnMade [] t
  turn_first k s t good two made =
      let d = dispatch_to g s t made in
      let from : Serves g (accepts []) s d.view d.stage = subst
      (λ (js : List JobState). Serves g (accepts js) s d.view d.stage) two.jobs d.serves in
      let a = subst (λ (got : Option CallName). Serves_ x g (serving lives.Waiting k) lc cs [] (accepts [])
      (events.Accepted got) d.view d.stage) (server_accepts x 0 0 given k)
      (serves_accept x g (serving lives.Waiting k) lc cs [] (accepts []) d.view s d.stage two refl from) in
      let two1 : Two x (serving lives.Accepted k) lc cs [] a.stage =
      two_as x (after (server_setup x) (events.Accepted (Some (the_call x))) (serving lives.Waiting k)) lc
      (serving lives.Accepted k) lc cs [] a.stage a.stage (server_accepted x 0 0 given k) refl refl a.two in
      let v1 : Turning = accepts (begun (the_call x) ∷ []) in
      let e = subst (λ (got : Option CallName). Serves_ x g (serving lives.Accepted k) lc cs [] v1
      (events.Accepted got) d.view d.stage) (server_accepts_none x 0 0 given lives.Accepted k refl)
      (serves_accept x g (serving lives.Accepted k) lc cs [] v1 d.view a.stage d.stage two1 refl a.goes) in
      by_reading [] d.view d.stage t
      (reads_out x g lc cs [] 0 given 0 (λ k request. Keeps k) keeps_on keeps_still (length (unread_of k.received)) k []
      e.stage d.stage d.view
      (omega arith) (good, e.two, e.goes)) d.then_

  -- a later one
  pub turn_later : (k : CallLooks) (request : List ℕ) (s t : Stage) → Keeps k
      → Two x (serving lives.Accepted k) lc cs (job_of request ∷ []) s → Made (dispatches g) s t
      → TurnMade (job_of request ∷ []) t
  turn_later k request s t good two made =
      let js : List JobState = job_of request ∷ [] in
      let d = dispatch_to g s t made in
      let from : Serves g (accepts js) s d.view d.stage = subst
      (λ (ks : List JobState). Serves g (accepts ks) s d.view d.stage) two.jobs d.serves in
      let e = subst (λ (got : Option CallName). Serves_ x g (serving lives.Accepted k) lc cs js (accepts js)
      (events.Accepted got) d.view d.stage) (server_accepts_none x 0 0 given lives.Accepted k refl)
      (serves_accept x g (serving lives.Accepted k) lc cs js (accepts js) d.view s d.stage two refl from) in
      by_reading js d.view d.stage t
      (reads_out x g lc cs js 0 given 0 (λ k request. Keeps k) keeps_on keeps_still (length (unread_of k.received)) k
      request e.stage d.stage
      d.view (omega arith) (good, e.two, e.goes)) d.then_
