-- Parts that come to something, and turns of a dispatcher between its calls.
use Rattle.std.proofs.Common.{◌≡◌, ◌⊎◌, ℕ, Bool, true, false, List, []}
use Rattle.std.proofs.Common.{◌∷◌, ◌++◌, Option, Some, None, refl, inl, inr, sym, subst}
use Rattle.rx_model.specs.declared.event.Event.{Event}
use Rattle.rx_model.specs.declared.event.Event.TheVariants as events
use Rattle.rx_model.specs.declared.event.Noted.{Noted}
use Rattle.rx_jobs.specs.Dispatching.{Turning, accepts, by_ask, dispatching, left, over, proceed}
use Rattle.rx_jobs.specs.Dispatching.{serves, settle}
use Rattle.rx_jobs.specs.Handlers.{Handlers}
use Rattle.rx_jobs.specs.Jobs.{Ask, JobState, Moving, moving, serving}
use Rattle.rx_events.specs.Joint.{IsAllowedAt}
use Rattle.rx_wire.specs.Turns.{Program}
use Rattle.rx_plan.specs.Parts.{Came, To, Refused, Cut, Endless, One, Part, Then, by_test, cut_behind, each, ends}
use Rattle.rx_plan.specs.Parts.{goes_on, makes, not_made}
use Rattle.rx_plan.specs.Programs.{Turn, cut_there, goes, is_endless, is_over}
use Rattle.rx_plan.specs.Stages.{Stage}
use Rattle.rx_plan.specs.Stages.{with_event}
use Rattle.rx_plan.specs.Turned.{jobs_left}
use Rattle.rx_plan.proofs.Soundness.Sound.{IfTo}

-- ---- parts that come to something

-- whatever a part comes to is so
abbrev pub Leads : {A : Type 0} → (A → Type 0) → Part A → Type 0
Leads {A} P part = (es : List Noted) (a : A) → part es (To a) → P a

pub ends_lead : {A : Type 0} (P : A → Type 0) (came : Came A) → IfTo P came → Leads P (ends came)
ends_lead {A} P came so es a made = of made.1
  where
    of : (◌≡◌ {A = Came A} (To a) came) ⊎ (◌≡◌ {A = Came A} (To a) Cut) → P a
    of (inl same) = subst (IfTo P) (sym same) so
    of (inr cut) = absurd cc

pub then_lead : {A B : Type 0} (P : A → Type 0) (R : B → Type 0) (first : Part A) (next : A → Part B) → Leads P first
    → ((a : A) → P a → Leads R (next a)) → Leads R (Then first next)
then_lead {A} {B} P R first next lead more es b t = onward t.came t.made t.goes
  where
    onward : (came : Came A) → first t.front came → goes_on next came t.rest (To b) → R b
    onward (To a) made on = more a (lead t.front a made) t.rest b on
    onward (Refused why) made on = ends_lead R (Refused why) tt t.rest b on
    onward Cut made on = ends_lead R Cut tt t.rest b on
    onward Endless made on = ends_lead R Endless tt t.rest b on

pub each_lead : {A X : Type 0} (P : A → Type 0) (part : X → A → Part A)
    → ((x : X) (a : A) → P a → Leads P (part x a)) → (xs : List X) (a : A) → P a → Leads P (each part xs a)
each_lead P part one [] a so = ends_lead P (To a) so
each_lead P part one (x ∷ xs) a so =
    then_lead P P (part x a) (each part xs) (one x a so) (λ b next. each_lead P part one xs b next)

pub test_lead : {A : Type 0} (P : A → Type 0) (b : Bool) (first other : Part A) → Leads P first → Leads P other
    → Leads P (by_test b first other)
test_lead P true first other so or_so = so
test_lead P false first other so or_so = or_so

pub one_lead : (P : Event → Type 0) (node : ℕ) (is : Event → Type 0) → ((e : Event) → is e → P e)
    → Leads P (One node is)
one_lead P node is so es e made = of made
  where
    of : {es : List Noted} {out : Came Event} → One node is es out → IfTo P out
    of not_made = tt
    of (cut_behind e i) = tt
    of (makes e i) = so e i

-- ---- a turn of a program

pub turn_lead : {View Ask : Type 0} (p : Program View Ask) (node : ℕ) (R : View → Stage → Type 0)
    → ((v : View) (s : Stage) (a : Ask) (e : Event) → R v s → p.asks v ≡ Some a → p.is a e
    → IsAllowedAt s.nodes s.history node e → R (p.heard v e) (with_event node e s))
    → (v : View) (s : Stage) → R v s → Leads (λ r. R r.0 r.1 × (p.asks r.0 ≡ None)) (Turn p node v s)
turn_lead {View} {Ask} p node R step v s so es r made = of made so
  where
    of : {v : View} {s : Stage} {es : List Noted} {out : Came (View × Stage)} → Turn p node v s es out → R v s
        → IfTo (λ r. R r.0 r.1 × (p.asks r.0 ≡ None)) out
    of (cut_there v s) so = tt
    of (is_over v s none) so = (so, none)
    of (goes v s a e es out asks allowed rest) so = of rest (step v s a e so asks allowed.0 allowed.1)
    of (is_endless v s es turn long) so = tt

-- ---- a dispatcher between its calls

-- it has a call to make, or its turn is over
abbrev pub IsSteady : Handlers → Turning → Type 0
IsSteady g (accepts jobs) = Unit {0}
IsSteady g (serves done m todo) = (a : Ask) × ((serving g).asks m ≡ Some a)
IsSteady g (over jobs) = Unit {0}

settle_steady : (g : Handlers) (done : List JobState) (m : Moving) (todo : List JobState)
    → IsSteady g (settle g done m todo)
settle_steady g done m [] = by ((serving g).asks m) refl
  where
    by : (o : Option Ask) → (serving g).asks m ≡ o → IsSteady g (by_ask o (serves done m []) (over (done ++ left m)))
    by (Some a) asked = (a, asked)
    by None none = tt
settle_steady g done m (j ∷ js) = by ((serving g).asks m) refl (settle_steady g (done ++ left m) (moving g j) js)
  where
    by : (o : Option Ask) → (serving g).asks m ≡ o → IsSteady g (settle g (done ++ left m) (moving g j) js)
        → IsSteady g (by_ask o (serves done m (j ∷ js)) (settle g (done ++ left m) (moving g j) js))
    by (Some a) asked next = (a, asked)
    by None none next = next

proceed_steady : (g : Handlers) (done jobs : List JobState) → IsSteady g (proceed g done jobs)
proceed_steady g done [] = tt
proceed_steady g done (j ∷ js) = settle_steady g done (moving g j) js

pub heard_steady : (g : Handlers) (t : Turning) (e : Event) → IsSteady g ((dispatching g).heard t e)
heard_steady g (accepts jobs) (events.Accepted None) = proceed_steady g [] jobs
heard_steady g (accepts jobs) (events.Accepted (Some c)) = tt
heard_steady g (accepts jobs) _ = tt
heard_steady g (serves done m todo) e = settle_steady g done ((serving g).heard m e) todo
heard_steady g (over jobs) e = tt

-- where it has no call to make, its turn is over
pub steady_over : (g : Handlers) (t : Turning) → IsSteady g t → (dispatching g).asks t ≡ None → t ≡ over (jobs_left t)
steady_over g (accepts jobs) steady none = absurd cc
steady_over g (serves done m todo) steady none = absurd (let asked = steady.1 in cc)
steady_over g (over jobs) steady none = refl
