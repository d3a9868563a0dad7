-- The jobs of a dispatcher along a history that it drives.
use Rattle.std.proofs.Common.{◌≡◌, Bool, true, false, cond, List, [], ◌∷◌, ◌++◌, Option, Some, None, refl, sym, ap}
use Rattle.std.proofs.Common.{◌∙◌, subst, append_assoc, option_map}
use Rattle.std.proofs.lemmas.List.{append-nil, map-append}
use Rattle.rx_model.specs.declared.event.Event.{Event}
use Rattle.rx_model.specs.declared.event.Event.TheVariants as events
use Rattle.rx_model.specs.declared.names.CallName.{CallName}
use Rattle.rx_model.specs.Names.{same_name}
use Rattle.rx_model.proofs.NameLaws.{name_itself, name_sym}
use Rattle.rx_rules.proofs.EveryLaws.{Every, every-append}
use Rattle.rx_jobs.specs.declared.job.Want.{Want}
use Rattle.rx_jobs.specs.declared.job.Want.TheVariants as wants
use Rattle.rx_jobs.specs.Handlers.{Handlers}
use Rattle.rx_jobs.specs.Jobs.{Ask, accept, JobState, Moving, IsCall, ask_of, begun, is_staying, moving, serving}
use Rattle.rx_jobs.specs.Jobs.{want_in}
use Rattle.rx_jobs.specs.Dispatching.{Turning, accepts, serves, over, by_ask, dispatching, hears, heard_accept}
use Rattle.rx_jobs.specs.Dispatching.{kept, left, proceed, settle}
use Rattle.rx_jobs.specs.Lives.{HasCount, IsExact, Lives}
use Rattle.rx_jobs.specs.Lives as lives
use Rattle.rx_jobs.specs.History.{Drives, starts, begins, makes, leaves, IsExactTurn, WaitsExact, calls_of, gives}
use Rattle.rx_jobs.specs.History.{handles, is_accept, life_of, turn_calls}
use Rattle.rx_jobs.proofs.LifeLaws.{lives_exact}

-- ---- the calls of jobs differ

-- a call is none of these
abbrev pub Apart : CallName → List CallName → Type 0
Apart c cs = Every (λ d. same_name d c ≡ false) cs

-- each is none of those behind it
abbrev pub Differ : List CallName → Type 0
Differ [] = Unit {0}
Differ (c ∷ cs) = Apart c cs × Differ cs

pub every-front : {X : Type 0} (P : X → Type 0) (xs ys : List X) → Every P (xs ++ ys) → Every P xs
every-front P [] ys all = tt
every-front P (x ∷ xs) ys all = (all.0, every-front P xs ys all.1)

pub every-back : {X : Type 0} (P : X → Type 0) (xs ys : List X) → Every P (xs ++ ys) → Every P ys
every-back P [] ys all = all
every-back P (x ∷ xs) ys all = every-back P xs ys all.1

-- one in the middle is none of the others
apart-front : (xs ys : List CallName) (c : CallName) → Differ (xs ++ c ∷ ys) → Apart c xs
apart-front [] ys c d = tt
apart-front (x ∷ xs) ys c d =
    (name_sym x c ∙ (every-back (λ y. same_name y x ≡ false) xs (c ∷ ys) d.0).0, apart-front xs ys c d.1)

apart-back : (xs ys : List CallName) (c : CallName) → Differ (xs ++ c ∷ ys) → Apart c ys
apart-back [] ys c d = d.0
apart-back (x ∷ xs) ys c d = apart-back xs ys c d.1

-- without it the others differ
differ-left : (xs ys : List CallName) (c : CallName) → Differ (xs ++ c ∷ ys) → Differ (xs ++ ys)
differ-left [] ys c d = d.1
differ-left (x ∷ xs) ys c d =
    let all = d.0 in (
      every-append (λ y. same_name y x ≡ false) xs ys (every-front (λ y. same_name y x ≡ false) xs (c ∷ ys) all)
          (every-back (λ y. same_name y x ≡ false) xs (c ∷ ys) all).1,
      differ-left xs ys c d.1,
    )

-- with a new one they do too
differ-new : (xs : List CallName) (c : CallName) → Differ xs → Apart c xs → Differ (xs ++ c ∷ [])
differ-new [] c d new = (tt, tt)
differ-new (x ∷ xs) c d new =
    (every-append (λ y. same_name y x ≡ false) xs (c ∷ []) d.0 (name_sym c x ∙ new.0, tt), differ-new xs c d.1 new.1)

pub calls-append : (xs ys : List JobState) → calls_of (xs ++ ys) ≡ calls_of xs ++ calls_of ys
calls-append xs ys = map-append (λ (j : JobState). j.call) xs ys

-- ---- lives in a history

-- a job that waits for its next step lives
abbrev pub Waits : Handlers → List Event → JobState → Type 0
Waits g h j = Lives g j.call (life_of j.call h) (moving g j)

-- one in its step does
abbrev pub Acts : Handlers → List Event → Moving → Type 0
Acts g h m = Lives g m.job.call (life_of m.job.call h) m

-- each job of a turn lives, and their calls differ
abbrev pub Lived : Handlers → List Event → Turning → Type 0
Lived g h (accepts jobs) = Every (Waits g h) jobs × Differ (calls_of jobs)
Lived g h (serves done m todo) =
    Every (Waits g h) done × Acts g h m × Every (Waits g h) todo × Differ (calls_of done ++ m.job.call ∷ calls_of todo)
Lived g h (over jobs) = Every (Waits g h) jobs × Differ (calls_of jobs)

-- a life of a place is one of its own call
acts_by : (g : Handlers) (h : List Event) (m : Moving) (c : CallName) → m.job.call ≡ c → Lives g c (life_of c h) m
    → Acts g h m
acts_by g h m c own life = subst (λ (d : CallName). Lives g d (life_of d h) m) (sym own) life

-- ---- behind an event

-- one that is not of a call leaves its life
life_by : (g e : Bool) (x : Event) (l : List Event) → g ≡ false → e ≡ false → cond g [] (cond e (x ∷ l) l) ≡ l
life_by true e x l given handled = cc
life_by false true x l given handled = cc
life_by false false x l given handled = refl

life_stays : (c : CallName) (e : Event) (h : List Event) → gives c e ≡ false → handles c e ≡ false
    → life_of c (e ∷ h) ≡ life_of c h
life_stays c e h given handled = life_by (gives c e) (handles c e) e (life_of c h) given handled

-- jobs that it leaves live on
waits_on : (g : Handlers) (e : Event) (h : List Event) (jobs : List JobState)
    → Every (λ c. gives c e ≡ false) (calls_of jobs) → Every (λ c. handles c e ≡ false) (calls_of jobs)
    → Every (Waits g h) jobs → Every (Waits g (e ∷ h)) jobs
waits_on g e h [] given handled all = tt
waits_on g e h (j ∷ js) given handled all = (
  subst (λ (l : List Event). Lives g j.call l (moving g j)) (sym (life_stays j.call e h given.0 handled.0)) all.0,
  waits_on g e h js given.1 handled.1 all.1,
)

-- ---- the next job

-- those that had their step, with one more that stays
more_done : (g : Handlers) (h : List Event) (done : List JobState) (m : Moving) → Every (Waits g h) done → Acts g h m
    → (serving g).asks m ≡ None → Every (Waits g h) (done ++ left m)
more_done g h done m all acts none = by (is_staying m.phase) refl
  where
    by : (b : Bool) → is_staying m.phase ≡ b → Every (Waits g h) (done ++ kept b m.job)
    by true stays =
        every-append (Waits g h) done (m.job ∷ []) all
        (lives.steps (life_of m.job.call h) m acts none stays, tt)
    by false stays = every-append (Waits g h) done [] all tt

-- their calls differ
kept_differ : (done todo : List JobState) (j : JobState) (b : Bool)
    → Differ (calls_of done ++ j.call ∷ calls_of todo) → Differ (calls_of (done ++ kept b j) ++ calls_of todo)
kept_differ done todo j true d =
    subst Differ (sym (append_assoc (calls_of done) (j.call ∷ []) (calls_of todo))
    ∙ ap (λ (cs : List CallName). cs ++ calls_of todo) (sym (calls-append done (j ∷ [])))) d
kept_differ done todo j false d =
    subst (λ (js : List JobState). Differ (calls_of js ++ calls_of todo)) (sym (append-nil done))
    (differ-left (calls_of done) (calls_of todo) j.call d)

-- a job that begins its step
acts_first : (g : Handlers) (h : List Event) (j : JobState) → Waits g h j
    → (Acts g h (moving g j)) × ((moving g j).job.call ≡ j.call)
acts_first g h j life =
    let own : (moving g j).job.call ≡ j.call = (lives_exact g j.call (life_of j.call h) (moving g j) life).own in
    (acts_by g h (moving g j) j.call own life, own)

settle_lived : (g : Handlers) (h : List Event) (done : List JobState) (m : Moving) (todo : List JobState)
    → Every (Waits g h) done → Acts g h m → Every (Waits g h) todo
    → Differ (calls_of done ++ m.job.call ∷ calls_of todo) → Lived g h (settle g done m todo)
settle_lived g h done m [] all acts rest d = by ((serving g).asks m) refl
  where
    by : (o : Option Ask) → (serving g).asks m ≡ o → Lived g h (by_ask o (serves done m []) (over (done ++ left m)))
    by (Some a) asked = (all, acts, tt, d)
    by None none = (
      more_done g h done m all acts none,
      subst Differ (append-nil (calls_of (done ++ left m))) (kept_differ done [] m.job (is_staying m.phase) d),
    )
settle_lived g h done m (j ∷ js) all acts rest d =
    let first = acts_first g h j rest.0 in
    by ((serving g).asks m) refl
    (λ none. settle_lived g h (done ++ left m) (moving g j) js (more_done g h done m all acts none) first.0 rest.1
    (subst (λ (c : CallName). Differ (calls_of (done ++ left m) ++ c ∷ calls_of js)) (sym first.1)
    (kept_differ done (j ∷ js) m.job (is_staying m.phase) d)))
  where
    by : (o : Option Ask) → (serving g).asks m ≡ o
        → ((serving g).asks m ≡ None → Lived g h (settle g (done ++ left m) (moving g j) js))
        → Lived g h (by_ask o (serves done m (j ∷ js)) (settle g (done ++ left m) (moving g j) js))
    by (Some a) asked then = (all, acts, rest, d)
    by None none then = then none

proceed_lived : (g : Handlers) (h : List Event) (jobs : List JobState) → Every (Waits g h) jobs
    → Differ (calls_of jobs) → Lived g h (proceed g [] jobs)
proceed_lived g h [] all d = (tt, tt)
proceed_lived g h (j ∷ js) all d =
    let first = acts_first g h j all.0 in
    settle_lived g h [] (moving g j) js tt first.0 all.1
    (subst (λ (c : CallName). Differ (c ∷ calls_of js)) (sym first.1) d)

-- ---- an accept

none_handled : (got : Option CallName) (cs : List CallName) → Every (λ c. handles c (events.Accepted got) ≡ false) cs
none_handled got [] = tt
none_handled got (c ∷ cs) = (refl, none_handled got cs)

accept_lived : (g : Handlers) (h : List Event) (jobs : List JobState) (got : Option CallName)
    → Every (λ c. gives c (events.Accepted got) ≡ false) (calls_of jobs) → Every (Waits g h) jobs
    → Differ (calls_of jobs) → Lived g (events.Accepted got ∷ h) (heard_accept g jobs got)
accept_lived g h jobs None given all d =
    proceed_lived g (events.Accepted None ∷ h) jobs
    (waits_on g (events.Accepted None) h jobs given (none_handled None (calls_of jobs)) all) d
accept_lived g h jobs (Some c) given all d =
    let e : Event = events.Accepted (Some c) in
    let none : life_of c (e ∷ h) ≡ [] =
    ap (λ (b : Bool). cond b [] (life_of c h)) (name_itself c) in (
      every-append (Waits g (e ∷ h)) jobs (begun c ∷ [])
          (waits_on g e h jobs given (none_handled (Some c) (calls_of jobs)) all)
          (subst (λ (l : List Event). Lives g c l (moving g (begun c))) (sym none) lives.begins, tt),
      subst Differ (sym (calls-append jobs (begun c ∷ []))) (differ-new (calls_of jobs) c d given),
    )

-- ---- a call of a job

-- an event of a call, with the call
record Of (c : CallName) (e : Event) : Type 0 where
  given : (d : CallName) → gives d e ≡ false
  handled : (d : CallName) → handles d e ≡ same_name d c

of_want : (j : JobState) (w : Want) (e : Event) → IsCall (ask_of j w) e → Of j.call e
of_want j wants.Read e is =
    subst (Of j.call) (sym is.2) (record { given = λ d. refl; handled = λ d. refl })
of_want j wants.Write e is =
    subst (Of j.call) (sym is.1) (record { given = λ d. refl; handled = λ d. refl })
of_want j (wants.Finish code) e is =
    subst (Of j.call) (sym is.1) (record { given = λ d. refl; handled = λ d. refl })

of_ask : (g : Handlers) (m : Moving) (a : Ask) (e : Event) → (serving g).asks m ≡ Some a → IsCall a e
    → Of m.job.call e
of_ask g m a e asked is = by (want_in m.phase m.job) asked
  where
    by : (o : Option Want) → option_map (ask_of m.job) o ≡ Some a → Of m.job.call e
    by None none = cc
    by (Some w) some =
        let same : ask_of m.job w ≡ a = cc in
        of_want m.job w e (subst (λ (b : Ask). IsCall b e) (sym same) is)

others_given : (c : CallName) (e : Event) → Of c e → (cs : List CallName) → Every (λ d. gives d e ≡ false) cs
others_given c e x [] = tt
others_given c e x (d ∷ cs) = (x.given d, others_given c e x cs)

others_handled : (c : CallName) (e : Event) → Of c e → (cs : List CallName) → Apart c cs
    → Every (λ d. handles d e ≡ false) cs
others_handled c e x [] apart = tt
others_handled c e x (d ∷ cs) apart = (x.handled d ∙ apart.0, others_handled c e x cs apart.1)

-- its own life has it
own_by : (g e : Bool) (x : Event) (l : List Event) → g ≡ false → e ≡ true → cond g [] (cond e (x ∷ l) l) ≡ x ∷ l
own_by true e x l given handled = cc
own_by false true x l given handled = refl
own_by false false x l given handled = cc

module _ (g : Handlers) (h : List Event) (done : List JobState) (m : Moving) (todo : List JobState) (a : Ask)
    (e : Event) where
  call_lived : (serving g).asks m ≡ Some a → IsCall a e → HasCount e → Every (Waits g h) done → Acts g h m
      → Every (Waits g h) todo → Differ (calls_of done ++ m.job.call ∷ calls_of todo)
      → Lived g (e ∷ h) (settle g done ((serving g).heard m e) todo)
  call_lived asked is count all acts rest d =
      let c : CallName = m.job.call in
      let x : Of c e = of_ask g m a e asked is in
      let own : life_of c (e ∷ h) ≡ e ∷ life_of c h =
      own_by (gives c e) (handles c e) e (life_of c h) (x.given c) (x.handled c ∙ name_itself c) in
      let n : Moving = (serving g).heard m e in
      let life : Lives g c (life_of c (e ∷ h)) n =
      subst (λ (l : List Event). Lives g c l n) (sym own) (lives.calls (life_of c h) m a e acts asked is count) in
      let same : n.job.call ≡ c = (lives_exact g c (life_of c (e ∷ h)) n life).own in
      settle_lived g (e ∷ h) done n todo
      (waits_on g e h done (others_given c e x (calls_of done))
      (others_handled c e x (calls_of done) (apart-front (calls_of done) (calls_of todo) c d)) all)
      (acts_by g (e ∷ h) n c same life)
      (waits_on g e h todo (others_given c e x (calls_of todo))
      (others_handled c e x (calls_of todo) (apart-back (calls_of done) (calls_of todo) c d)) rest)
      (subst (λ (k : CallName). Differ (calls_of done ++ k ∷ calls_of todo)) (sym same) d)

makes_lived : (g : Handlers) (t : Turning) (a : Ask) (e : Event) (h : List Event) → (dispatching g).asks t ≡ Some a
    → IsCall a e → HasCount e → Every (λ c. gives c e ≡ false) (turn_calls t) → Lived g h t
    → Lived g (e ∷ h) (hears g t e)
makes_lived g (accepts jobs) a e h asked is count new live =
    let same : accept ≡ a = cc in
    let accepted : (got : Option CallName) × (e ≡ events.Accepted got) =
    subst (λ (b : Ask). IsCall b e) (sym same) is in
    subst (λ (x : Event). Lived g (x ∷ h) (hears g (accepts jobs) x)) (sym accepted.1)
    (accept_lived g h jobs accepted.0
    (subst (λ (x : Event). Every (λ c. gives c x ≡ false) (calls_of jobs)) accepted.1 new) live.0 live.1)
makes_lived g (serves done m todo) a e h asked is count new live =
    call_lived g h done m todo a e asked is count live.0 live.1 live.2 live.3
makes_lived g (over jobs) a e h asked is count new live = cc

-- ---- an event of others

none_given : (e : Event) → is_accept e ≡ false → (cs : List CallName) → Every (λ c. gives c e ≡ false) cs
none_given e other [] = tt
none_given e other (c ∷ cs) = (by e other, none_given e other cs)
  where
    by : (x : Event) → is_accept x ≡ false → gives c x ≡ false
    by (events.Accepted got) is = cc
    by _ is = refl

leaves_lived : (g : Handlers) (t : Turning) (e : Event) (h : List Event) → is_accept e ≡ false
    → Every (λ c. handles c e ≡ false) (turn_calls t) → Lived g h t → Lived g (e ∷ h) t
leaves_lived g (accepts jobs) e h other apart live =
    (waits_on g e h jobs (none_given e other (calls_of jobs)) apart live.0, live.1)
leaves_lived g (serves done m todo) e h other apart live =
    let front = every-front (λ c. handles c e ≡ false) (calls_of done) (m.job.call ∷ calls_of todo) apart in
    let back = every-back (λ c. handles c e ≡ false) (calls_of done) (m.job.call ∷ calls_of todo) apart in
    let given = none_given e other (m.job.call ∷ []) in (
      waits_on g e h done (none_given e other (calls_of done)) front live.0,
      subst (λ (l : List Event). Lives g m.job.call l m) (sym (life_stays m.job.call e h given.0 back.0)) live.1,
      waits_on g e h todo (none_given e other (calls_of todo)) back.1 live.2,
      live.3,
    )
leaves_lived g (over jobs) e h other apart live =
    (waits_on g e h jobs (none_given e other (calls_of jobs)) apart live.0, live.1)

-- ---- along a history

pub drives_lived : (g : Handlers) (t : Turning) (h : List Event) → Drives g t h → Lived g h t
drives_lived g t h (starts at) = (tt, tt)
drives_lived g t h (begins jobs at before) = drives_lived g (over jobs) at before
drives_lived g t h (makes from a e at asked is count new before) =
    makes_lived g from a e at asked is count new (drives_lived g from at before)
drives_lived g t h (leaves at e past other apart before) =
    leaves_lived g at e past other apart (drives_lived g at past before)

waits_exact : (g : Handlers) (h : List Event) (jobs : List JobState) → Every (Waits g h) jobs
    → Every (WaitsExact g h) jobs
waits_exact g h [] all = tt
waits_exact g h (j ∷ js) all =
    (lives_exact g j.call (life_of j.call h) (moving g j) all.0, waits_exact g h js all.1)

lived_exact : (g : Handlers) (t : Turning) (h : List Event) → Lived g h t → IsExactTurn g h t
lived_exact g (accepts jobs) h live = waits_exact g h jobs live.0
lived_exact g (serves done m todo) h live = (
  waits_exact g h done live.0,
  lives_exact g m.job.call (life_of m.job.call h) m live.1,
  waits_exact g h todo live.2,
)
lived_exact g (over jobs) h live = waits_exact g h jobs live.0

-- each job of a dispatcher is exact of its call's events in each history that it drives
pub drives_exact : (g : Handlers) (t : Turning) (h : List Event) → Drives g t h → IsExactTurn g h t
drives_exact g t h drives = lived_exact g t h (drives_lived g t h drives)
