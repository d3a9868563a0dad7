-- A turn of a dispatcher is one step of each of its jobs, one after another; and what it accepts before them.
use Rattle.std.proofs.Common.{◌≡◌, ◌++◌, List, [], ◌∷◌, Option, Some, None, refl, ap, sym, subst, ◌∙◌, append-nil}
use Rattle.std.proofs.Common.{append_assoc}
use Rattle.rx_model.specs.declared.event.Event.{Event}
use Rattle.rx_model.specs.declared.event.Event.TheVariants as events
use Rattle.rx_model.specs.declared.event.Noted.{Noted}
use Rattle.rx_model.specs.declared.names.CallName.{CallName}
use Rattle.rx_jobs.specs.Dispatching.{Turning, accepts, by_ask, dispatching, heard_accept, left, over, proceed, serves}
use Rattle.rx_jobs.specs.Dispatching.{settle}
use Rattle.rx_jobs.specs.Handlers.{Handlers}
use Rattle.rx_jobs.specs.Jobs.{Ask, IsCall, JobState, Moving, begun, moving, serving}
use Rattle.rx_jobs.specs.Jobs as asks
use Rattle.rx_wire.specs.Turns.{noted}
use Rattle.rx_plan.specs.Parts.{Came, To}
use Rattle.rx_plan.specs.Programs.{Turn, cut_there, goes, is_endless, is_over}
use Rattle.rx_plan.specs.Stages.{IsAllowedNext, Stage, with_event}
use Rattle.rx_rounds.proofs.Making.{to_is}

-- from here on the step of a job goes to this end
abbrev pub StepGoes : Handlers → Moving → Stage → Moving → Stage → Type 0
StepGoes g m s n t = (es : List Noted) × Turn (serving g) 0 m s es (To (n, t))

-- a turn does
abbrev pub TurnGoes : Handlers → Turning → Stage → Turning → Stage → Type 0
TurnGoes g v s w t = (es : List Noted) × Turn (dispatching g) 0 v s es (To (w, t))

-- ---- where a job asks, and where it rests

settle_asks : (g : Handlers) (done todo : List JobState) (m : Moving) (a : Ask) → (serving g).asks m ≡ Some a
    → settle g done m todo ≡ serves done m todo
settle_asks g done [] m a asked = ap (λ (o : Option Ask). by_ask o (serves done m []) (over (done ++ left m))) asked
settle_asks g done (j ∷ js) m a asked =
    ap (λ (o : Option Ask). by_ask o (serves done m (j ∷ js)) (settle g (done ++ left m) (moving g j) js)) asked

settle_rests : (g : Handlers) (done todo : List JobState) (m : Moving) → (serving g).asks m ≡ None
    → settle g done m todo ≡ proceed g (done ++ left m) todo
settle_rests g done [] m rests = ap (λ (o : Option Ask). by_ask o (serves done m []) (over (done ++ left m))) rests
settle_rests g done (j ∷ js) m rests =
    ap (λ (o : Option Ask). by_ask o (serves done m (j ∷ js)) (settle g (done ++ left m) (moving g j) js)) rests

-- ---- one step

-- the step of the job whose turn it is, and then the turn goes on with the next
pub record StepThen (g : Handlers) (done todo : List JobState) (m : Moving) (s : Stage) (w : Turning)
    (t : Stage) : Type 0 where
  pub behind : Moving
  pub stage : Stage
  pub step : StepGoes g m s behind stage
  pub rests : (serving g).asks behind ≡ None
  pub then_ : TurnGoes g (proceed g (done ++ left behind) todo) stage w t

more_step : (g : Handlers) (done todo : List JobState) (m : Moving) (s : Stage) (w : Turning) (t : Stage) (a : Ask)
    (e : Event) → (serving g).asks m ≡ Some a → IsAllowedNext s 0 (IsCall a) e
    → StepThen g done todo ((serving g).heard m e) (with_event 0 e s) w t → StepThen g done todo m s w t
more_step g done todo m s w t a e asked allowed r =
    record {
      behind = r.behind;
      stage = r.stage;
      step = (noted 0 e ∷ r.step.0, goes m s a e r.step.0 (To (r.behind, r.stage)) asked allowed r.step.1);
      rests = r.rests;
      then_ = r.then_;
    }

-- two that are asked for at once are one
pub some_ask : (a b : Ask) → ◌≡◌ {A = Option Ask} (Some a) (Some b) → a ≡ b
some_ask a b is = cc

-- a turn begins with it
pub step_then : (g : Handlers) (done todo : List JobState) (m : Moving) (s : Stage) (w : Turning) (t : Stage)
    → TurnGoes g (settle g done m todo) s w t → StepThen g done todo m s w t
step_then g done todo m s w t turn = of (settle g done m todo) s turn.0 (To (w, t)) turn.1 m refl refl
  where
    rested : (m : Moving) (s : Stage) (es : List Noted) → (serving g).asks m ≡ None
        → Turn (dispatching g) 0 (settle g done m todo) s es (To (w, t)) → StepThen g done todo m s w t
    rested m s es rests turn =
        record {
          behind = m;
          stage = s;
          step = ([], is_over m s rests);
          rests = rests;
          then_ = (
            es,
            subst (λ (v : Turning). Turn (dispatching g) 0 v s es (To (w, t)))
                (settle_rests g done todo m rests) turn,
          );
        }

    asked_none : (m : Moving) (v : Turning) → v ≡ settle g done m todo → (a : Ask) → (serving g).asks m ≡ Some a
        → (dispatching g).asks v ≡ Some a
    asked_none m v is a asked =
        ap (λ (u : Turning). (dispatching g).asks u) (is ∙ settle_asks g done todo m a asked) ∙ asked

    of : (v : Turning) (s : Stage) (es : List Noted) (out : Came (Turning × Stage)) → Turn (dispatching g) 0 v s es out
        → (m : Moving) → v ≡ settle g done m todo → out ≡ To (w, t) → StepThen g done todo m s w t
    of v s es out (cut_there x y) m at is = absurd cc
    of v s es out (is_over x y none) m at is = by ((serving g).asks m) refl
      where
        by : (o : Option Ask) → (serving g).asks m ≡ o → StepThen g done todo m s w t
        by None rests =
            rested m s [] rests
            (subst (λ (u : Turning). Turn (dispatching g) 0 u s [] (To (w, t))) at
            (subst (λ (c : Came (Turning × Stage)). Turn (dispatching g) 0 v s [] c) is (is_over v s none)))
        by (Some a) asked =
            absurd (let no' : ◌≡◌ {A = Option Ask} None (Some a) = sym none ∙ asked_none m v at a asked in cc (no'))
    of v s es out (goes x y b e more o some allowed rest) m at is =
        by
        (λ next. of ((dispatching g).heard v e) (with_event 0 e s) more out rest ((serving g).heard m e) next is)
        ((serving g).asks m) refl
      where
        by : ((dispatching g).heard v e ≡ settle g done ((serving g).heard m e) todo
            → StepThen g done todo ((serving g).heard m e) (with_event 0 e s) w t)
            → (o : Option Ask) → (serving g).asks m ≡ o → StepThen g done todo m s w t
        by again None rests =
            rested m s (noted 0 e ∷ more) rests
            (subst (λ (u : Turning). Turn (dispatching g) 0 u s (noted 0 e ∷ more) (To (w, t))) at
            (subst (λ (c : Came (Turning × Stage)). Turn (dispatching g) 0 v s (noted 0 e ∷ more) c) is
            (goes v s b e more out some allowed rest)))
        by again (Some a) asked =
            let one : b ≡ a = some_ask b a (sym some ∙ asked_none m v at a asked) in
            let next : (dispatching g).heard v e ≡ settle g done ((serving g).heard m e) todo =
            ap (λ (u : Turning). (dispatching g).heard u e) (at ∙ settle_asks g done todo m a asked) in
            more_step g done todo m s w t a e asked (subst (λ (c : Ask). IsAllowedNext s 0 (IsCall c) e) one allowed)
            (again next)
    of v s es out (is_endless x y fs cut long) m at is = absurd cc

-- ---- all steps

-- each job has its step, from one stage to the next, and these stay
abbrev pub EachSteps : Handlers → List JobState → Stage → List JobState → Stage → Type 0
EachSteps g [] s ls t = (ls ≡ []) × (t ≡ s)
EachSteps g (j ∷ js) s ls t =
    (n : Moving) × (u : Stage) × (more : List JobState) × StepGoes g (moving g j) s n u × ((serving g).asks n ≡ None)
    × (ls ≡ left n ++ more) × EachSteps g js u more t

-- a turn whose jobs are these has no further step behind theirs
pub record TurnOver (g : Handlers) (done js : List JobState) (s : Stage) (w : Turning) (t : Stage) : Type 0 where
  pub stay : List JobState
  pub is : w ≡ over (done ++ stay)
  pub steps : EachSteps g js s stay t

over_now : (g : Handlers) (done : List JobState) (s : Stage) (w : Turning) (t : Stage)
    → TurnGoes g (over done) s w t → (w ≡ over done) × (t ≡ s)
over_now g done s w t turn = of (over done) s turn.0 (To (w, t)) turn.1 refl refl
  where
    of : (v : Turning) (s : Stage) (es : List Noted) (out : Came (Turning × Stage)) → Turn (dispatching g) 0 v s es out
        → v ≡ over done → out ≡ To (w, t) → (w ≡ over done) × (t ≡ s)
    of v s es out (cut_there x y) at is = absurd cc
    of v s es out (is_over x y none) at is =
        (let same = to_is (v, s) (w, t) is in (
          sym (ap (λ (z : Turning × Stage). z.0) same) ∙ at,
          sym (ap (λ (z : Turning × Stage). z.1) same),
        ))
    of v s es out (goes x y b e more o some allowed rest) at is =
        absurd (let no' : ◌≡◌ {A = Option Ask} None (Some b) = sym (ap (λ (u : Turning). (dispatching g).asks u) at)
        ∙ some in cc (no'))
    of v s es out (is_endless x y fs cut long) at is = absurd cc

pub turn_each : (g : Handlers) (js done : List JobState) (s : Stage) (w : Turning) (t : Stage)
    → TurnGoes g (proceed g done js) s w t → TurnOver g done js s w t
turn_each g [] done s w t turn =
    (let o = over_now g done s w t turn in
    record { stay = []; is = o.0 ∙ ap over (sym (append-nil done)); steps = (refl, o.1) })
turn_each g (j ∷ js) done s w t turn =
    let r = step_then g done js (moving g j) s w t turn in
    let rest = turn_each g js (done ++ left r.behind) r.stage w t r.then_ in
    record {
      stay = left r.behind ++ rest.stay;
      is = rest.is ∙ ap over (append_assoc done (left r.behind) rest.stay);
      steps = (r.behind, r.stage, rest.stay, r.step, r.rests, refl, rest.steps);
    }

-- ---- what it accepts first

-- accepts until none waits: of these calls, from one stage to the next
pub data Accepting (g : Handlers) : List JobState → Stage → List JobState → Stage → Type 0 where
  no_more : (jobs : List JobState) (s : Stage) → IsAllowedNext s 0 (IsCall asks.accept) (events.Accepted None)
      → Accepting g jobs s jobs (with_event 0 (events.Accepted None) s)
  one_more : (jobs : List JobState) (s : Stage) (c : CallName) (all : List JobState) (t : Stage)
      → IsAllowedNext s 0 (IsCall asks.accept) (events.Accepted (Some c))
      → Accepting g (jobs ++ begun c ∷ []) (with_event 0 (events.Accepted (Some c)) s) all t
      → Accepting g jobs s all t

-- and then each job has its step
pub record AcceptsThen (g : Handlers) (jobs : List JobState) (s : Stage) (w : Turning) (t : Stage) : Type 0 where
  pub all : List JobState
  pub stage : Stage
  pub accepting : Accepting g jobs s all stage
  pub then_ : TurnOver g [] all stage w t

accept_more : (g : Handlers) (jobs : List JobState) (s : Stage) (w : Turning) (t : Stage) (c : CallName)
    → IsAllowedNext s 0 (IsCall asks.accept) (events.Accepted (Some c))
    → AcceptsThen g (jobs ++ begun c ∷ []) (with_event 0 (events.Accepted (Some c)) s) w t → AcceptsThen g jobs s w t
accept_more g jobs s w t c allowed r =
    record {
      all = r.all;
      stage = r.stage;
      accepting = one_more jobs s c r.all r.stage allowed r.accepting;
      then_ = r.then_;
    }

-- a turn begins with it
pub accepts_then : (g : Handlers) (jobs : List JobState) (s : Stage) (w : Turning) (t : Stage)
    → TurnGoes g (accepts jobs) s w t → AcceptsThen g jobs s w t
accepts_then g jobs s w t turn = of (accepts jobs) s turn.0 (To (w, t)) turn.1 jobs refl refl
  where
    of : (v : Turning) (s : Stage) (es : List Noted) (out : Came (Turning × Stage)) → Turn (dispatching g) 0 v s es out
        → (jobs : List JobState) → v ≡ accepts jobs → out ≡ To (w, t) → AcceptsThen g jobs s w t
    of v s es out (cut_there x y) jobs at is = absurd cc
    of v s es out (is_over x y none) jobs at is =
        absurd (let no' : ◌≡◌ {A = Option Ask} None (Some asks.accept) =
        sym none ∙ ap (λ (u : Turning). (dispatching g).asks u) at in cc (no'))
    of v s es out (goes x y b e more o some allowed rest) jobs at is =
        by e (subst (λ (c : Ask). IsAllowedNext s 0 (IsCall c) e) one allowed) rest
        (λ js next. of ((dispatching g).heard v e) (with_event 0 e s) more out rest js next is)
      where
        one : b ≡ asks.accept
        one = some_ask b asks.accept (sym some ∙ ap (λ (u : Turning). (dispatching g).asks u) at)

        by : (f : Event) → IsAllowedNext s 0 (IsCall asks.accept) f
            → Turn (dispatching g) 0 ((dispatching g).heard v f) (with_event 0 f s) more out
            → ((js : List JobState) → (dispatching g).heard v f ≡ accepts js → AcceptsThen g js (with_event 0 f s) w t)
            → AcceptsThen g jobs s w t
        by f allowed rest again = got allowed.0.0 allowed.0.1
          where
            heard : (g' : Option CallName) → f ≡ events.Accepted g' → (dispatching g).heard v f ≡ heard_accept g jobs g'
            heard g' same = (λ i. (dispatching g).heard (at i) (same i))

            got : (g' : Option CallName) → f ≡ events.Accepted g' → AcceptsThen g jobs s w t
            got None same =
                let event : IsAllowedNext s 0 (IsCall asks.accept) (events.Accepted None) =
                subst (λ (d : Event). IsAllowedNext s 0 (IsCall asks.accept) d) same allowed in
                let onward : TurnGoes g (proceed g [] jobs) (with_event 0 (events.Accepted None) s) w t = (
                  more,
                  subst (λ (d : Event). Turn (dispatching g) 0 (proceed g [] jobs) (with_event 0 d s) more (To (w, t)))
                      same
                      (subst (λ (u : Turning). Turn (dispatching g) 0 u (with_event 0 f s) more (To (w, t)))
                      (heard None same)
                      (subst (λ (c : Came (Turning × Stage)). Turn (dispatching g) 0 ((dispatching g).heard v f)
                      (with_event 0 f s) more c) is rest)),
                ) in
                record {
                  all = jobs;
                  stage = with_event 0 (events.Accepted None) s;
                  accepting = no_more jobs s event;
                  then_ = turn_each g jobs [] (with_event 0 (events.Accepted None) s) w t onward;
                }
            got (Some c) same =
                let event : IsAllowedNext s 0 (IsCall asks.accept) (events.Accepted (Some c)) =
                subst (λ (d : Event). IsAllowedNext s 0 (IsCall asks.accept) d) same allowed in
                accept_more g jobs s w t c event
                (subst (λ (d : Event). AcceptsThen g (jobs ++ begun c ∷ []) (with_event 0 d s) w t) same
                (again (jobs ++ begun c ∷ []) (heard (Some c) same)))
    of v s es out (is_endless x y fs cut long) jobs at is = absurd cc

-- ---- a step, event by event

-- a step that asks makes an event
pub record StepAsks (g : Handlers) (m : Moving) (a : Ask) (s : Stage) (n : Moving) (t : Stage) : Type 0 where
  pub event : Event
  pub allowed : IsAllowedNext s 0 (IsCall a) event
  pub then_ : StepGoes g ((serving g).heard m event) (with_event 0 event s) n t

pub step_asks : (g : Handlers) (m : Moving) (a : Ask) (s : Stage) (n : Moving) (t : Stage) → (serving g).asks m ≡ Some a
    → StepGoes g m s n t → StepAsks g m a s n t
step_asks g m a s n t asked step = of m s step.0 (To (n, t)) step.1 asked refl
  where
    some_is : (x y : Ask) → ◌≡◌ {A = Option Ask} (Some x) (Some y) → x ≡ y
    some_is x y same = cc

    of : (m : Moving) (s : Stage) (es : List Noted) (out : Came (Moving × Stage)) → Turn (serving g) 0 m s es out
        → (serving g).asks m ≡ Some a → out ≡ To (n, t) → StepAsks g m a s n t
    of m s es out (cut_there x y) asked is = absurd cc
    of m s es out (is_over x y none) asked is =
        absurd (let no' : ◌≡◌ {A = Option Ask} None (Some a) = sym none ∙ asked in cc (no'))
    of m s es out (goes x y b e more o some allowed rest) asked is =
        record {
          event = e;
          allowed =
              subst (λ (c : Ask). IsAllowedNext s 0 (IsCall c) e) (some_is b a (sym some ∙ asked)) allowed;
          then_ = (
            more,
            subst (λ (c : Came (Moving × Stage)). Turn (serving g) 0 ((serving g).heard m e)
                (with_event 0 e s) more c) is rest,
          );
        }
    of m s es out (is_endless x y fs cut long) asked is = absurd cc

-- one that asks nothing is over
pub step_rests : (g : Handlers) (m : Moving) (s : Stage) (n : Moving) (t : Stage) → (serving g).asks m ≡ None
    → StepGoes g m s n t → (n ≡ m) × (t ≡ s)
step_rests g m s n t rests step = of m s step.0 (To (n, t)) step.1 rests refl
  where
    of : (m : Moving) (s : Stage) (es : List Noted) (out : Came (Moving × Stage)) → Turn (serving g) 0 m s es out
        → (serving g).asks m ≡ None → out ≡ To (n, t) → (n ≡ m) × (t ≡ s)
    of m s es out (cut_there x y) rests is = absurd cc
    of m s es out (is_over x y none) rests is =
        (let same = to_is {A = Moving × Stage} (m, s) (n, t) is in (
          sym (ap (λ (z : Moving × Stage). z.0) same),
          sym (ap (λ (z : Moving × Stage). z.1) same),
        ))
    of m s es out (goes x y b e more o some allowed rest) rests is =
        absurd (let no' : ◌≡◌ {A = Option Ask} None (Some b) = sym rests ∙ some in cc (no'))
    of m s es out (is_endless x y fs cut long) rests is = absurd cc
