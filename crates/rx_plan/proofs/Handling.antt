-- The events of a server whose every accept, read, write and finish is a dispatcher's.
use Rattle.std.proofs.Common.{◌≡◌, ◌≤◌, nat_lt, cond, if◌then◌else◌, ◌+◌, ℕ, ℤ, suc, Bool, true}
use Rattle.std.proofs.Common.{false, List, [], ◌∷◌, ◌++◌, length, Option, Some, None, option_map, Result, Ok, Err}
use Rattle.std.proofs.Common.{refl, ◌∙◌, ap, sym, subst, arith}
use Rattle.std.proofs.lemmas.List.{append-nil}
use Rattle.rx_model.specs.declared.answers.ReadGot.TheVariants as readers
use Rattle.rx_model.specs.declared.answers.ServeRead.{ServeRead}
use Rattle.rx_model.specs.declared.answers.ServeRead.TheVariants as reads
use Rattle.rx_model.specs.declared.answers.ServeRefused.{ServeRefused}
use Rattle.rx_model.specs.declared.answers.ServeRefused.TheVariants as refusals
use Rattle.rx_model.specs.declared.answers.WroteGot.TheVariants as writers
use Rattle.rx_model.specs.declared.event.Event.{Event}
use Rattle.rx_model.specs.declared.event.Event.TheVariants as events
use Rattle.rx_model.specs.declared.names.CallName.{CallName}
use Rattle.rx_model.proofs.NameLaws.{name_is, name_itself}
use Rattle.rx_rules.proofs.EveryLaws.{Every, every-append}
use Rattle.rx_jobs.specs.declared.job.Want.{Want}
use Rattle.rx_jobs.specs.declared.job.Want.TheVariants as wants
use Rattle.rx_jobs.specs.Dispatching.{Turning, accepts, serves, over, by_ask, dispatching, heard_accept, kept, left}
use Rattle.rx_jobs.specs.Dispatching.{proceed, settle}
use Rattle.rx_jobs.specs.Handlers.{Handlers, early_code, served_for, wait_of}
use Rattle.rx_jobs.specs.History.{calls_of, gives, handles, life_of, turn_calls}
use Rattle.rx_jobs.specs.Jobs.{Ask, accept, IsCall, JobState, Moving, ask_of, begun}
use Rattle.rx_jobs.specs.Jobs.{decided, grown, heard, heard_read, heard_write, is_staying, judged, maybe_coded}
use Rattle.rx_jobs.specs.Jobs.{moving, serving, settled, settled_by, trimmed, waits, want_in}
use Rattle.rx_jobs.specs.Keeping.{kept_of}
use Rattle.rx_history.specs.Counts.{accepts as is_accept_of, times_accepted}
use Rattle.rx_script.specs.Served.{Served}
use Rattle.rx_script.specs.Served as serveds
use Rattle.rx_plan.proofs.Passing.{AcceptsFresh}
use Rattle.rx_jobs.proofs.Driving.{calls-append, every-back, every-front}

-- ---- events that nobody's program makes

-- an event that starts no call, and is no call of a caller or a handler
abbrev pub IsQuiet : Event → Type 0
IsQuiet (events.Called cid (Ok c)) = ⊥
IsQuiet (events.Wrote c offered got bytes) = ⊥
IsQuiet (events.Shut c got) = ⊥
IsQuiet (events.HasRead c max got bytes) = ⊥
IsQuiet (events.Accepted got) = ⊥
IsQuiet (events.Finished c code got) = ⊥
IsQuiet _ = Unit {0}

-- a history of a server, from its start on: turns of a dispatcher begin, each behind the one before; it makes the calls
-- that it asks; and nothing else is a handler's call
pub data Serves (g : Handlers) : Turning → List Event → Type 0 where
  starts : Serves g (over []) []
  begins : (jobs : List JobState) (h : List Event) → Serves g (over jobs) h → Serves g (accepts jobs) h
  makes : (t : Turning) (a : Ask) (e : Event) (h : List Event)
      → (dispatching g).asks t ≡ Some a → IsCall a e → Serves g t h → Serves g ((dispatching g).heard t e) (e ∷ h)
  leaves : (t : Turning) (e : Event) (h : List Event) → IsQuiet e → Serves g t h → Serves g t (e ∷ h)

-- ---- a job keeps its call

pub decided-call : (x : Served) (j : JobState) → (decided x j).call ≡ j.call
decided-call (serveds.refusal c) j = refl
decided-call (serveds.bytes out) j = refl

pub settled-call : (g : Handlers) (steps : ℕ) (j : JobState) → (settled g steps j).call ≡ j.call
settled-call g steps j = by (early_code g j.request true)
  where
    waits-on : (b : Bool)
        → (if b then record j { steps = steps } else decided (served_for g j.request) j).call ≡ j.call
    waits-on true = refl
    waits-on false = decided-call (served_for g j.request) j

    by : (o : Option ℤ) → (settled_by g steps j o).call ≡ j.call
    by (Some c) = refl
    by None = waits-on (nat_lt steps (wait_of g j.request))

pub moving-call : (g : Handlers) (j : JobState) → (moving g j).job.call ≡ j.call
moving-call g j = by (waits j)
  where
    by : (b : Bool) → (if b then settled g (j.steps + 1) j else j).call ≡ j.call
    by true = settled-call g (j.steps + 1) j
    by false = refl

pub judged-call : (g : Handlers) (j : JobState) → (judged g j).call ≡ j.call
judged-call g j = by (early_code g j.request false)
  where
    by : (o : Option ℤ) → (maybe_coded o j).call ≡ j.call
    by None = refl
    by (Some c) = refl

pub grown-call : (g : Handlers) (before : ℕ) (j : JobState) → (grown g before j).call ≡ j.call
grown-call g before j = by (nat_lt before (length (kept_of g j.request)))
  where
    by : (b : Bool) → (if b then judged g (trimmed g j) else trimmed g j).call ≡ j.call
    by true = judged-call g (trimmed g j)
    by false = refl

pub read-call : (g : Handlers) (j : JobState) (got : ServeRead) (came : List ℕ)
    → (heard_read g j got came).job.call ≡ j.call
read-call g j (reads.Got n) came = grown-call g (length j.request) (record j { request = j.request ++ came })
read-call g j reads.End came = settled-call g 0 (record j { ended = true })
read-call g j reads.NotYet came = refl
read-call g j (reads.Gone c) came = refl
read-call g j reads.NotOpen came = refl

pub write-call : (j : JobState) (offered : ℕ) (got : Result ℕ ServeRefused)
    → (heard_write j offered got).job.call ≡ j.call
write-call j offered (Ok n) = refl
write-call j offered (Err refusals.NotOpen) = refl
write-call j offered (Err (refusals.Gone c)) = refl
write-call j offered (Err refusals.Unread) = refl

pub heard-call : (g : Handlers) (j : JobState) (e : Event) → (heard g j e).job.call ≡ j.call
heard-call g j (events.HasRead c max (readers.Server got) came) = read-call g j got came
heard-call g j (events.HasRead c max (readers.Client got) came) = refl
heard-call g j (events.Wrote c offered (writers.Server got) came) = write-call j offered got
heard-call g j (events.Wrote c offered (writers.Client got) came) = refl
heard-call g j (events.Finished c code got) = refl
heard-call g j _ = refl

-- ---- the calls of a turn

module _ (P : CallName → Type 0) where
  kept-calls : (done : List JobState) (j : JobState) (b : Bool) → Every P (calls_of done) → P j.call
      → Every P (calls_of (done ++ kept b j))
  kept-calls done j true all here =
      subst (Every P) (sym (calls-append done (j ∷ []))) (every-append P (calls_of done) (j.call ∷ []) all (here, tt))
  kept-calls done j false all here = subst (λ (js : List JobState). Every P (calls_of js)) (sym (append-nil done)) all

  pub settle-calls : (g : Handlers) (done : List JobState) (m : Moving) (todo : List JobState)
      → Every P (calls_of done) → P m.job.call → Every P (calls_of todo) → Every P (turn_calls (settle g done m todo))
  settle-calls g done m [] all here rest = by ((serving g).asks m)
    where
      by : (o : Option Ask) → Every P (turn_calls (by_ask o (serves done m []) (over (done ++ left m))))
      by (Some a) = every-append P (calls_of done) (m.job.call ∷ []) all (here, tt)
      by None = kept-calls done m.job (is_staying m.phase) all here
  settle-calls g done m (j ∷ js) all here rest =
      by ((serving g).asks m)
      (settle-calls g (done ++ left m) (moving g j) js (kept-calls done m.job (is_staying m.phase) all here)
      (subst P (sym (moving-call g j)) rest.0) rest.1)
    where
      by : (o : Option Ask) → Every P (turn_calls (settle g (done ++ left m) (moving g j) js))
          → Every P (turn_calls (by_ask o (serves done m (j ∷ js)) (settle g (done ++ left m) (moving g j) js)))
      by (Some a) next = every-append P (calls_of done) (m.job.call ∷ calls_of (j ∷ js)) all (here, rest)
      by None next = next

  proceed-calls : (g : Handlers) (jobs : List JobState) → Every P (calls_of jobs)
      → Every P (turn_calls (proceed g [] jobs))
  proceed-calls g [] all = tt
  proceed-calls g (j ∷ js) all =
      settle-calls g [] (moving g j) js tt (subst P (sym (moving-call g j)) all.0) all.1

  -- a call behind an event is one of those before it, or the one that it gave
  heard-calls : (g : Handlers) (t : Turning) (a : Ask) (e : Event) → (dispatching g).asks t ≡ Some a → IsCall a e
      → Every P (turn_calls t) → ((c : CallName) → gives c e ≡ true → P c)
      → Every P (turn_calls ((dispatching g).heard t e))
  heard-calls g (accepts jobs) a e asked is all new =
      (let same : accept ≡ a = cc in
      let accepted : (got : Option CallName) × (e ≡ events.Accepted got) =
      subst (λ (b : Ask). IsCall b e) (sym same) is in
      subst (λ (x : Event). Every P (turn_calls ((dispatching g).heard (accepts jobs) x))) (sym accepted.1)
      (by accepted.0 (λ c given. new c (subst (λ (x : Event). gives c x ≡ true) (sym accepted.1) given))))
    where
      by : (got : Option CallName) → ((c : CallName) → gives c (events.Accepted got) ≡ true → P c)
          → Every P (turn_calls (heard_accept g jobs got))
      by None new = proceed-calls g jobs all
      by (Some c) new =
          subst (Every P) (sym (calls-append jobs (begun c ∷ [])))
          (every-append P (calls_of jobs) (c ∷ []) all (new c (name_itself c), tt))
  heard-calls g (serves done m todo) a e asked is all new =
      let back = every-back P (calls_of done) (m.job.call ∷ calls_of todo) all in
      settle-calls g done ((serving g).heard m e) todo
      (every-front P (calls_of done) (m.job.call ∷ calls_of todo) all)
      (subst P (sym (heard-call g m.job e)) back.0) back.1
  heard-calls g (over jobs) a e asked is all new = absurd cc

-- ---- each call of a turn was accepted

accept-is : (e : Event) (c : CallName) → is_accept_of e c ≡ gives c e
accept-is (events.Accepted (Some d)) c = refl
accept-is (events.Accepted None) c = refl
accept-is (events.Linked to service first got) c = refl
accept-is (events.Called cid got) c = refl
accept-is (events.Wrote d offered got bytes) c = refl
accept-is (events.Shut d got) c = refl
accept-is (events.HasRead d max got bytes) c = refl
accept-is (events.Ended d got) c = refl
accept-is (events.Cancelled d code got) c = refl
accept-is (events.Finished d code got) c = refl
accept-is (events.Taken from bytes got) c = refl
accept-is (events.Polled got) c = refl
accept-is (events.Clocked now) c = refl

accepted-if : (e : Event) (h : List Event) (c : CallName)
    → times_accepted (e ∷ h) c ≡ cond (gives c e) (suc (times_accepted h c)) (times_accepted h c)
accepted-if e h c = ap (λ (b : Bool). cond b (suc (times_accepted h c)) (times_accepted h c)) (accept-is e c)

pub accepted-more : (e : Event) (h : List Event) (c : CallName) → times_accepted h c ≤ times_accepted (e ∷ h) c
accepted-more e h c =
    subst (λ (n : ℕ). times_accepted h c ≤ n) (sym (accepted-if e h c)) (by (gives c e))
  where
    by : (b : Bool) → times_accepted h c ≤ cond b (suc (times_accepted h c)) (times_accepted h c)
    by true = omega arith
    by false = omega arith

pub accepted-one : (e : Event) (h : List Event) (c : CallName) → gives c e ≡ true
    → times_accepted (e ∷ h) c ≡ suc (times_accepted h c)
accepted-one e h c given =
    accepted-if e h c ∙ ap (λ (b : Bool). cond b (suc (times_accepted h c)) (times_accepted h c)) given

more-accepted : (e : Event) (h : List Event) (cs : List CallName) → Every (λ c. 1 ≤ times_accepted h c) cs
    → Every (λ c. 1 ≤ times_accepted (e ∷ h) c) cs
more-accepted e h [] all = tt
more-accepted e h (c ∷ cs) all =
    let more = accepted-more e h c in
    let one = all.0 in
    (omega arith, more-accepted e h cs all.1)

pub turn_accepted : (g : Handlers) {t : Turning} {h : List Event} → Serves g t h
    → Every (λ c. 1 ≤ times_accepted h c) (turn_calls t)
turn_accepted g starts = tt
turn_accepted g (begins jobs h s) = turn_accepted g s
turn_accepted g (makes t a e h asked is s) =
    heard-calls (λ c. 1 ≤ times_accepted (e ∷ h) c) g t a e asked is
    (more-accepted e h (turn_calls t) (turn_accepted g s))
    (λ c given. (let one = accepted-one e h c given in omega arith))
turn_accepted g (leaves t e h quiet s) = more-accepted e h (turn_calls t) (turn_accepted g s)

-- ---- a call that wasn't accepted is nobody's

-- a call of a job is its own
pub own-want : (j : JobState) (w : Want) (e : Event) (c : CallName) → IsCall (ask_of j w) e → handles c e ≡ true
    → c ≡ j.call
own-want j wants.Read e c is on =
    name_is c j.call (subst (λ (x : Event). handles c x ≡ true) is.2 on)
own-want j wants.Write e c is on =
    name_is c j.call (subst (λ (x : Event). handles c x ≡ true) is.1 on)
own-want j (wants.Finish code) e c is on =
    name_is c j.call (subst (λ (x : Event). handles c x ≡ true) is.1 on)

pub own-ask : (g : Handlers) (m : Moving) (a : Ask) (e : Event) (c : CallName) → (serving g).asks m ≡ Some a
    → IsCall a e
    → handles c e ≡ true → c ≡ m.job.call
own-ask g m a e c asked is on = by (want_in m.phase m.job) asked
  where
    by : (o : Option Want) → option_map (ask_of m.job) o ≡ Some a → c ≡ m.job.call
    by None none = absurd cc
    by (Some w) some =
        (let same : ask_of m.job w ≡ a = cc in
        own-want m.job w e c (subst (λ (b : Ask). IsCall b e) (sym same) is) on)

handled-here : (P : CallName → Type 0) (g : Handlers) (t : Turning) (a : Ask) (e : Event) (c : CallName)
    → (dispatching g).asks t ≡ Some a → IsCall a e → handles c e ≡ true → Every P (turn_calls t) → P c
handled-here P g (accepts jobs) a e c asked is on all =
    let same : accept ≡ a = cc in
    let accepted : (got : Option CallName) × (e ≡ events.Accepted got) =
    subst (λ (b : Ask). IsCall b e) (sym same) is in
    absurd (let never : handles c (events.Accepted accepted.0) ≡ true =
    subst (λ (x : Event). handles c x ≡ true) accepted.1 on in cc)
handled-here P g (serves done m todo) a e c asked is on all =
    subst P (sym (own-ask g m a e c asked is on)) (every-back P (calls_of done) (m.job.call ∷ calls_of todo) all).0
handled-here P g (over jobs) a e c asked is on all = absurd cc

pub quiet-off : (e : Event) (c : CallName) → IsQuiet e → handles c e ≡ false
quiet-off (events.Wrote d offered got bytes) c quiet = absurd quiet
quiet-off (events.HasRead d max got bytes) c quiet = absurd quiet
quiet-off (events.Finished d code got) c quiet = absurd quiet
quiet-off _ c quiet = refl

quiet-gives : (e : Event) (c : CallName) → IsQuiet e → gives c e ≡ false
quiet-gives (events.Accepted got) c quiet = absurd quiet
quiet-gives _ c quiet = refl

-- nothing of a call that wasn't accepted is read, written or finished
pub unaccepted_none : (g : Handlers) {t : Turning} {h : List Event} (c : CallName) → Serves g t h
    → times_accepted h c ≡ 0 → life_of c h ≡ []
unaccepted_none g c starts none = refl
unaccepted_none g c (begins jobs h s) none = unaccepted_none g c s none
unaccepted_none g c (makes t a e h asked is s) none =
    by (gives c e) (handles c e) refl refl (unaccepted_none g c s)
  where
    by : (given on : Bool) → gives c e ≡ given → handles c e ≡ on → (times_accepted h c ≡ 0 → life_of c h ≡ [])
        → cond given [] (cond on (e ∷ life_of c h) (life_of c h)) ≡ []
    by true on is_given is_on before = refl
    by false true is_given is_on before =
        (let one : 1 ≤ times_accepted h c =
        handled-here (λ d. 1 ≤ times_accepted h d) g t a e c asked is is_on (turn_accepted g s) in
        let more = accepted-more e h c in
        absurd (omega arith))
    by false false is_given is_on before = (let more = accepted-more e h c in before (omega arith))
unaccepted_none g c (leaves t e h quiet s) none =
    by (gives c e) (handles c e) (quiet-gives e c quiet) (quiet-off e c quiet) (unaccepted_none g c s)
  where
    by : (given on : Bool) → given ≡ false → on ≡ false → (times_accepted h c ≡ 0 → life_of c h ≡ [])
        → cond given [] (cond on (e ∷ life_of c h) (life_of c h)) ≡ []
    by true on is_given is_on before = refl
    by false true is_given is_on before = absurd cc
    by false false is_given is_on before = (let more = accepted-more e h c in before (omega arith))

-- so a call that is accepted once has a life of its own
pub accepts_fresh : (g : Handlers) {t : Turning} {h : List Event} (c : CallName) → Serves g t h
    → times_accepted h c ≤ 1 → AcceptsFresh c h
accepts_fresh g c starts once = tt
accepts_fresh g c (begins jobs h s) once = accepts_fresh g c s once
accepts_fresh g c (makes t a e h asked is s) once =
    let more = accepted-more e h c in (
      λ given. (let one = accepted-one e h c given in unaccepted_none g c s (omega arith)),
      accepts_fresh g c s (omega arith),
    )
accepts_fresh g c (leaves t e h quiet s) once =
    let more = accepted-more e h c in (
      λ given. (let one = accepted-one e h c given in unaccepted_none g c s (omega arith)),
      accepts_fresh g c s (omega arith),
    )
