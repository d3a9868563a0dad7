-- The jobs of a turn that stay in it, by the names of their calls.
use Rattle.std.proofs.Common.{◌≡◌, ◌∷◌, ◌++◌, ◌&&◌, ◌||◌, ℤ, Bool, true, false, List, [], refl, ap, sym, ◌∙◌}
use Rattle.std.proofs.Common.{Option, Some, None, option_map, append-nil, append_assoc}
use Rattle.rx_model.specs.declared.names.CallName.{CallName}
use Rattle.rx_model.specs.Names.{same_name}
use Rattle.rx_model.proofs.NameLaws.{name_sym}
use Rattle.rx_rules.specs.Life.{is_handled}
use Rattle.rx_rules.specs.Looks.{CallRecord}
use Rattle.rx_rules.proofs.EveryLaws.{Every}
use Rattle.rx_jobs.specs.declared.job.Phase.{Phase}
use Rattle.rx_jobs.specs.declared.job.Phase.TheVariants as phases
use Rattle.rx_jobs.specs.Dispatching.{Turning, accepts, by_ask, kept, left, over, proceed, serves, settle}
use Rattle.rx_jobs.specs.Handlers.{Handlers}
use Rattle.rx_jobs.specs.History.{calls_of}
use Rattle.rx_jobs.specs.Jobs.{Ask, JobState, Moving, ask_of, is_staying, moving, serving, want_in}
use Rattle.rx_jobs.proofs.Driving.{Differ, calls-append}
use Rattle.rx_closing.proofs.Server.FirstsHold.{is_among}
use Rattle.rx_closing.proofs.Server.HandlerKeeps.{has_handler}
use Rattle.rx_plan.proofs.Handling.{moving-call}

-- ---- names of a list

pub among_append : (c : CallName) (xs ys : List CallName) → is_among c (xs ++ ys) ≡ (is_among c xs || is_among c ys)
among_append c [] ys = refl
among_append c (x ∷ xs) ys =
    ap (λ (b : Bool). same_name x c || b) (among_append c xs ys) ∙ assoc (same_name x c)
  where
    assoc : (b : Bool) → (b || (is_among c xs || is_among c ys)) ≡ ((b || is_among c xs) || is_among c ys)
    assoc true = refl
    assoc false = refl

-- one in the middle of names that differ is none of the others
pub apart_none : (c : CallName) (xs : List CallName) → Every (λ d. same_name d c ≡ false) xs → is_among c xs ≡ false
apart_none c [] apart = refl
apart_none c (x ∷ xs) apart = ap (λ (b : Bool). b || is_among c xs) apart.0 ∙ apart_none c xs apart.1

pub record IsApart (c : CallName) (xs ys : List CallName) : Type 0 where
  pub front : is_among c xs ≡ false
  pub back : is_among c ys ≡ false

pub differ_alone : (c : CallName) (xs ys : List CallName) → Differ (xs ++ c ∷ ys) → IsApart c xs ys
differ_alone c [] ys d = record { front = refl; back = apart_none c ys d.0 }
differ_alone c (x ∷ xs) ys d =
    let rest = differ_alone c xs ys d.1 in
    record {
      front = ap (λ (b : Bool). b || is_among c xs) (name_sym x c ∙ middle xs d.0) ∙ rest.front;
      back = rest.back;
    }
  where
    middle : (zs : List CallName) → Every (λ y. same_name y x ≡ false) (zs ++ c ∷ ys) → same_name c x ≡ false
    middle [] all = all.0
    middle (z ∷ zs) all = middle zs all.1

-- ---- the jobs of a turn that stay

abbrev pub staying_calls : Turning → List CallName
staying_calls (accepts jobs) = calls_of jobs
staying_calls (serves done m todo) = calls_of done ++ (calls_of (left m) ++ calls_of todo)
staying_calls (over jobs) = calls_of jobs

pub settle_calls : (g : Handlers) (done : List JobState) (m : Moving) (todo : List JobState)
    → staying_calls (settle g done m todo) ≡ calls_of done ++ (calls_of (left m) ++ calls_of todo)
settle_calls g done m [] = by ((serving g).asks m)
  where
    by : (o : Option Ask) → staying_calls (by_ask o (serves done m []) (over (done ++ left m)))
        ≡ calls_of done ++ (calls_of (left m) ++ [])
    by (Some a) = refl
    by None =
        calls-append done (left m)
        ∙ ap (λ (cs : List CallName). calls_of done ++ cs) (sym (append-nil (calls_of (left m))))
settle_calls g done m (j ∷ js) = by (settle_calls g (done ++ left m) (moving g j) js) ((serving g).asks m)
  where
    by : staying_calls (settle g (done ++ left m) (moving g j) js)
        ≡ calls_of (done ++ left m) ++ (calls_of (left (moving g j)) ++ calls_of js)
        → (o : Option Ask)
        → staying_calls (by_ask o (serves done m (j ∷ js)) (settle g (done ++ left m) (moving g j) js))
        ≡ calls_of done ++ (calls_of (left m) ++ (j.call ∷ calls_of js))
    by next (Some a) = refl
    by next None =
        next
        ∙ ap (λ (d : CallName). calls_of (done ++ left m) ++ (d ∷ calls_of js)) (moving-call g j)
        ∙ ap (λ (cs : List CallName). cs ++ (j.call ∷ calls_of js)) (calls-append done (left m))
        ∙ append_assoc (calls_of done) (calls_of (left m)) (j.call ∷ calls_of js)

pub proceed_calls : (g : Handlers) (jobs : List JobState) → staying_calls (proceed g [] jobs) ≡ calls_of jobs
proceed_calls g [] = refl
proceed_calls g (j ∷ js) =
    settle_calls g [] (moving g j) js ∙ ap (λ (d : CallName). d ∷ calls_of js) (moving-call g j)

-- ---- what it is asked and told

-- a job that asks stays
pub asks_stays : (g : Handlers) (m : Moving) (a : Ask) → (serving g).asks m ≡ Some a → is_staying m.phase ≡ true
asks_stays g m a asked = by m.phase asked
  where
    by : (p : Phase) → option_map (ask_of m.job) (want_in p m.job) ≡ Some a → is_staying p ≡ true
    by phases.Moves is = refl
    by phases.Quits is = refl
    by phases.Rests is = absurd cc
    by phases.Gone is = absurd cc

pub left_among : (c : CallName) (m : Moving)
    → is_among c (calls_of (left m)) ≡ (is_staying m.phase && same_name m.job.call c)
left_among c m = by (is_staying m.phase)
  where
    by : (b : Bool) → is_among c (calls_of (kept b m.job)) ≡ (b && same_name m.job.call c)
    by true = either (same_name m.job.call c)
      where
        either : (x : Bool) → (x || false) ≡ x
        either true = refl
        either false = refl
    by false = refl

pub is_some_call : (o : Option CallRecord) → has_handler o ≡ true
    → (r : CallRecord) × (o ≡ Some r) × (is_handled r.life ≡ true)
is_some_call None is = absurd cc
is_some_call (Some r) is = (r, refl, is)
