-- The steps that a job of a dispatcher waited: none before the end of its request, and behind it fewer than its script
-- has it wait.
use Rattle.std.proofs.Common.{◌≡◌, ◌<◌, ◌+◌, ◌∷◌, ◌++◌, ◌&&◌, cond, nat_lt, ℕ, ℤ, Bool, true, false, List, [], length}
use Rattle.std.proofs.Common.{refl, sym, subst, ◌∙◌, Option, Some, None, Result, Ok, Err}
use Rattle.rx_model.specs.declared.answers.ServeRead.{ServeRead}
use Rattle.rx_model.specs.declared.answers.ServeRead.TheVariants as reads
use Rattle.rx_model.specs.declared.answers.ServeRefused.{ServeRefused}
use Rattle.rx_model.specs.declared.answers.ServeRefused.TheVariants as refusals
use Rattle.rx_model.specs.declared.event.Event.{Event}
use Rattle.rx_model.specs.declared.event.Event.TheVariants as events
use Rattle.rx_model.specs.declared.names.CallName.{CallName}
use Rattle.rx_rules.specs.After.{is_zero}
use Rattle.rx_rules.proofs.EveryLaws.{Every, every-append}
use Rattle.rx_jobs.specs.declared.job.Phase.{Phase}
use Rattle.rx_jobs.specs.declared.job.Phase.TheVariants as phases
use Rattle.rx_jobs.specs.declared.job.Want.{Want}
use Rattle.rx_jobs.specs.declared.job.Want.TheVariants as wants
use Rattle.rx_jobs.specs.Dispatching.{Turning, accepts, by_ask, dispatching, heard_accept, kept, left, over, proceed}
use Rattle.rx_jobs.specs.Dispatching.{serves, settle}
use Rattle.rx_jobs.specs.Handlers.{Handlers, early_code, wait_of}
use Rattle.rx_jobs.specs.Jobs.{Ask, IsCall, JobState, Moving, ask_of, begun, grown, heard, heard_read, heard_write}
use Rattle.rx_jobs.specs.Jobs.{is_staying, judged, maybe_coded, moving, next_want, serving, settled, trimmed, waits}
use Rattle.rx_jobs.specs.Jobs.{want_in}
use Rattle.rx_jobs.specs.Jobs as asks
use Rattle.rx_jobs.specs.Keeping.{kept_of}
use Rattle.rx_jobs.proofs.LifeKeeps.{wanted}
use Rattle.rx_plan.proofs.Handling.{Serves}
use Rattle.rx_plan.proofs.Handling as handling
use Rattle.rx_closing.proofs.Server.OwnStep.{settled_as, settled_is, waits_none}

-- the steps of a job
pub record IsLow (g : Handlers) (j : JobState) : Type 0 where
  pub before : j.ended ≡ false → j.steps ≡ 0
  pub within : waits j ≡ true → j.steps < wait_of g j.request

-- ---- what leaves it so

-- one that isn't read to its end doesn't wait
going_waits : (j : JobState) → j.ended ≡ false → waits j ≡ true → ⊥
going_waits j going still =
    let wrong : ◌≡◌ {A = Bool} true false = sym (waits_none j still).0 ∙ going in
    cc (wrong)

-- a job that settled behind its end
settled_low : (g : Handlers) (steps : ℕ) (j : JobState) → j.ended ≡ true → IsLow g (settled g steps j)
settled_low g steps j ended =
    record {
      before = λ going. absurd (let wrong : ◌≡◌ {A = Bool} true false =
          sym ((settled_as g steps j).ended ∙ ended) ∙ going in cc (wrong));
      within = λ still. (
          let counted = settled_is g steps j still in
          subst (λ (i : JobState). i.steps < wait_of g i.request) (sym counted.0) counted.1);
    }

-- a job at the beginning of its step
moving_low : (g : Handlers) (j : JobState) → IsLow g j → IsLow g (moving g j).job
moving_low g j low = by (waits j) refl
  where
    by : (b : Bool) → waits j ≡ b → IsLow g (cond b (settled g (j.steps + 1) j) j)
    by true still = settled_low g (j.steps + 1) j (waits_none j still).0
    by false other = low

-- a job whose request grew
grown_low : (g : Handlers) (before : ℕ) (j : JobState) → j.ended ≡ false → j.steps ≡ 0 → IsLow g (grown g before j)
grown_low g before j going none = by (nat_lt before (length (kept_of g j.request)))
  where
    coded_by : (o : Option ℤ) → IsLow g (maybe_coded o (trimmed g j))
    coded_by None =
        record { before = λ is. none; within = λ still. absurd (going_waits (trimmed g j) going still) }
    coded_by (Some code) =
        record {
          before = λ is. none;
          within = λ still. absurd (going_waits (maybe_coded (Some code) (trimmed g j)) going still);
        }

    by : (b : Bool) → IsLow g (cond b (judged g (trimmed g j)) (trimmed g j))
    by true = coded_by (early_code g (kept_of g j.request) false)
    by false = coded_by None

-- a job that reads isn't read to its end
going_on : (j : JobState) (p : Phase) → want_in p j ≡ Some wants.Read → j.ended ≡ false
going_on j phases.Moves is = by j.code j.ended is
  where
    coded_not : (b : Bool) (code : ℤ) → Some (cond b wants.Write (wants.Finish code)) ≡ Some wants.Read → ⊥
    coded_not true code is = cc
    coded_not false code is = cc

    by : (o : Option ℤ) (b : Bool) → next_want (record j { ended = b }) o ≡ Some wants.Read → b ≡ false
    by None false is = refl
    by None true is = absurd cc
    by (Some code) b is = absurd (coded_not (is_zero code && nat_lt 0 (length j.reply)) code is)
going_on j phases.Quits is = absurd cc
going_on j phases.Rests is = absurd cc
going_on j phases.Gone is = absurd cc

-- what it is told
read_low : (g : Handlers) (j : JobState) (got : ServeRead) (came : List ℕ) → j.ended ≡ false → IsLow g j
    → IsLow g (heard_read g j got came).job
read_low g j (reads.Got n) came going low =
    grown_low g (length j.request) (record j { request = j.request ++ came }) going (low.before going)
read_low g j reads.End came going low = settled_low g 0 (record j { ended = true }) refl
read_low g j _ came going low = low

write_low : (g : Handlers) (j : JobState) (offered : ℕ) (got : Result ℕ ServeRefused) → IsLow g j
    → IsLow g (heard_write j offered got).job
write_low g j offered (Ok n) low = record { before = low.before; within = low.within }
write_low g j offered (Err refusals.NotOpen) low = low
write_low g j offered (Err (refusals.Gone code)) low = low
write_low g j offered (Err refusals.Unread) low = low

heard_low : (g : Handlers) (m : Moving) (a : Ask) (e : Event) → (serving g).asks m ≡ Some a → IsCall a e → IsLow g m.job
    → IsLow g ((serving g).heard m e).job
heard_low g m a e asked call low =
    let w : (w : Want) × (want_in m.phase m.job ≡ Some w) × (ask_of m.job w ≡ a) =
    wanted m.job (want_in m.phase m.job) a asked in
    by w.0 w.1 (subst (λ (x : Ask). IsCall x e) (sym w.2) call)
  where
    by : (w : Want) → want_in m.phase m.job ≡ Some w → IsCall (ask_of m.job w) e → IsLow g (heard g m.job e).job
    by wants.Read want is =
        subst (λ (x : Event). IsLow g (heard g m.job x).job) (sym is.2)
        (read_low g m.job is.0 is.1 (going_on m.job m.phase want) low)
    by wants.Write want is =
        subst (λ (x : Event). IsLow g (heard g m.job x).job) (sym is.1)
        (write_low g m.job _ is.0 low)
    by (wants.Finish code) want is = subst (λ (x : Event). IsLow g (heard g m.job x).job) (sym is.1) low

-- ---- each job of a turn

abbrev AreLow : Handlers → Turning → Type 0
AreLow g (accepts jobs) = Every (IsLow g) jobs
AreLow g (serves done m todo) = Every (IsLow g) done × IsLow g m.job × Every (IsLow g) todo
AreLow g (over jobs) = Every (IsLow g) jobs

left_low : (g : Handlers) (done : List JobState) (m : Moving) → Every (IsLow g) done → IsLow g m.job
    → Every (IsLow g) (done ++ left m)
left_low g done m all low = by (is_staying m.phase)
  where
    by : (b : Bool) → Every (IsLow g) (done ++ kept b m.job)
    by true = every-append (IsLow g) done (m.job ∷ []) all (low, tt)
    by false = every-append (IsLow g) done [] all tt

settle_low : (g : Handlers) (done : List JobState) (m : Moving) (todo : List JobState) → Every (IsLow g) done
    → IsLow g m.job → Every (IsLow g) todo → AreLow g (settle g done m todo)
settle_low g done m [] all low rest = by ((serving g).asks m)
  where
    by : (o : Option Ask) → AreLow g (by_ask o (serves done m []) (over (done ++ left m)))
    by (Some a) = (all, low, tt)
    by None = left_low g done m all low
settle_low g done m (j ∷ js) all low rest =
    by (settle_low g (done ++ left m) (moving g j) js (left_low g done m all low) (moving_low g j rest.0) rest.1)
    ((serving g).asks m)
  where
    by : AreLow g (settle g (done ++ left m) (moving g j) js) → (o : Option Ask)
        → AreLow g (by_ask o (serves done m (j ∷ js)) (settle g (done ++ left m) (moving g j) js))
    by next (Some a) = (all, low, rest)
    by next None = next

proceed_low : (g : Handlers) (jobs : List JobState) → Every (IsLow g) jobs → AreLow g (proceed g [] jobs)
proceed_low g [] all = tt
proceed_low g (j ∷ js) all = settle_low g [] (moving g j) js tt (moving_low g j all.0) all.1

begun_low : (g : Handlers) (c : CallName) → IsLow g (begun c)
begun_low g c = record { before = λ is. refl; within = λ still. absurd cc }

accept_low : (g : Handlers) (jobs : List JobState) (got : Option CallName) → Every (IsLow g) jobs
    → AreLow g (heard_accept g jobs got)
accept_low g jobs None all = proceed_low g jobs all
accept_low g jobs (Some c) all = every-append (IsLow g) jobs (begun c ∷ []) all (begun_low g c, tt)

makes_low : (g : Handlers) (t : Turning) (a : Ask) (e : Event) → (dispatching g).asks t ≡ Some a
    → IsCall a e → AreLow g t
    → AreLow g ((dispatching g).heard t e)
makes_low g (accepts jobs) a e asked call all =
    let one : asks.accept ≡ a = cc in
    let is : (got : Option CallName) × (e ≡ events.Accepted got) = subst (λ (x : Ask). IsCall x e) (sym one) call in
    subst (λ (x : Event). AreLow g ((dispatching g).heard (accepts jobs) x)) (sym is.1) (accept_low g jobs is.0 all)
makes_low g (serves done m todo) a e asked call all =
    settle_low g done ((serving g).heard m e) todo all.0 (heard_low g m a e asked call all.1) all.2
makes_low g (over jobs) a e asked call all = absurd cc

are_low : (g : Handlers) {t : Turning} {h : List Event} → Serves g t h → AreLow g t
are_low g handling.starts = tt
are_low g (handling.begins jobs h sv) = are_low g sv
are_low g (handling.makes t a e h asked call sv) = makes_low g t a e asked call (are_low g sv)
are_low g (handling.leaves t e h quiet sv) = are_low g sv

-- the jobs of a dispatcher between its turns
pub jobs_low : (g : Handlers) (jobs : List JobState) (h : List Event) → Serves g (over jobs) h → Every (IsLow g) jobs
jobs_low g jobs h sv = are_low g sv
