-- A turn of a dispatcher seen from one of its calls: the steps of other jobs leave it, and its own job has its step
-- once.
use Rattle.std.proofs.Common.{◌≡◌, ℕ, ℤ, cond, if◌then◌else◌, Bool, true, false, List, [], ◌∷◌, take, Option, Some}
use Rattle.std.proofs.Common.{None, option_map, Result, Ok, Err, refl, ap, sym, subst, ◌∙◌}
use Rattle.rx_model.specs.declared.answers.ReadGot.{ReadGot}
use Rattle.rx_model.specs.declared.answers.ReadGot.TheVariants as readers
use Rattle.rx_model.specs.declared.answers.ServeRefused.{ServeRefused}
use Rattle.rx_model.specs.declared.answers.ServeRefused.TheVariants as refusals
use Rattle.rx_model.specs.declared.event.Event.{Event}
use Rattle.rx_model.specs.declared.event.Event.TheVariants as events
use Rattle.rx_model.specs.declared.event.Noted.{Noted}
use Rattle.rx_model.specs.declared.names.CallName.{CallName}
use Rattle.rx_model.specs.Names.{same_name, channel_of}
use Rattle.rx_rules.specs.After.{acknowledged, after, finish_done, finished, is_end, is_zero, looks, owing_abort}
use Rattle.rx_rules.specs.After.{read_done}
use Rattle.rx_rules.specs.CallLooks.{after_read, after_shut, after_write}
use Rattle.rx_rules.specs.Life.{after_end, after_finish, after_gone}
use Rattle.rx_rules.specs.Looks.{CallRecord, Looks, call_at, on_channel, on_looks}
use Rattle.rx_rules.specs.Setup.{Setup}
use Rattle.rx_history.proofs.Calls.{call-changed}
use Rattle.rx_history.specs.Sides.{side}
use Rattle.rx_jobs.specs.Handlers.{Handlers}
use Rattle.rx_jobs.specs.Jobs.{Ask, IsCall, JobState, Moving, accepted, ask_of, serving, want_in}
use Rattle.rx_jobs.specs.declared.job.TheConstants.{OFFER_BYTES}
use Rattle.rx_jobs.specs.declared.job.Want.{Want}
use Rattle.rx_jobs.specs.declared.job.Want.TheVariants as wants
use Rattle.rx_plan.specs.Parts.{Came, To}
use Rattle.rx_plan.specs.Programs.{Turn, cut_there, goes, is_endless, is_over}
use Rattle.rx_plan.specs.Stages.{Stage, with_event}
use Rattle.rx_closing.proofs.Server.JobSteps.{StepGoes}
use Rattle.rx_plan.proofs.Handling.{heard-call}

-- ---- an event of another call

-- another call's record stays
other-stays : (c d : CallName) (change : CallRecord → CallRecord) (l m : Looks)
    → call_at m c ≡ cond (same_name c d) (option_map change (call_at l c)) (call_at l c) → same_name c d ≡ false
    → call_at m c ≡ call_at l c
other-stays c d change l m is other =
    is ∙ ap (λ (b : Bool). cond b (option_map change (call_at l c)) (call_at l c)) other

-- what a handler's call of another call leaves
abbrev pub LeavesBy : Setup → CallName → Looks → Event → Type 0
LeavesBy s c l e = call_at (after s e l) c ≡ call_at l c

read-leaves : (s : Setup) (c d : CallName) (most : ℕ) (got : ReadGot) (bytes : List ℕ) (l : Looks)
    → same_name c d ≡ false → LeavesBy s c l (events.HasRead d most got bytes)
read-leaves s c d most got bytes l other =
    let reading : CallRecord → CallRecord = λ j. record j { looks = after_read l.now (is_end got) bytes j.looks } in
    let ending : CallRecord → CallRecord = λ j. record j { life = after_end (is_end got) j.life } in
    let first : Looks = acknowledged (is_end got) d l in
    let second : Looks = on_looks d (after_read l.now (is_end got) bytes) first in
    other-stays c d ending second (read_done d (is_end got) bytes l) (call-changed c d ending second (λ j. refl)) other
    ∙ other-stays c d reading first second (call-changed c d reading first (λ j. refl)) other

finish-leaves : (s : Setup) (c d : CallName) (code : ℤ) (got : Result (Unit {0}) ServeRefused) (l : Looks)
    → same_name c d ≡ false → LeavesBy s c l (events.Finished d code got)
finish-leaves s c d code (Ok done) l other =
    let ending : CallRecord → CallRecord = λ j. record j { life = after_finish (is_zero code) code j.life } in
    other-stays c d ending (finished d code l) (finish_done d code (Ok done) l)
    (call-changed c d ending (finished d code l) (λ j. refl)) other ∙ first (is_zero code)
  where
    first : (b : Bool)
        → call_at (if b then on_looks d after_shut l else on_channel (channel_of d) (owing_abort (Some code)) l) c
        ≡ call_at l c
    first true =
        other-stays c d (λ j. record j { looks = after_shut j.looks }) l (on_looks d after_shut l)
        (call-changed c d (λ j. record j { looks = after_shut j.looks }) l (λ j. refl)) other
    first false = refl
finish-leaves s c d code (Err (refusals.Gone told)) l other =
    let going : CallRecord → CallRecord = λ j. record j { life = after_gone j.life } in
    other-stays c d going l (finish_done d code (Err (refusals.Gone told)) l)
    (call-changed c d going l (λ j. refl)) other
finish-leaves s c d code (Err refusals.NotOpen) l other = refl
finish-leaves s c d code (Err refusals.Unread) l other = refl

-- what a job asks of its call
want-leaves : (s : Setup) (c : CallName) (j : JobState) (w : Want) (l : Looks) (e : Event) → IsCall (ask_of j w) e
    → same_name c j.call ≡ false → LeavesBy s c l e
want-leaves s c j wants.Read l e is other =
    subst (λ (f : Event). LeavesBy s c l f) (sym is.2)
    (read-leaves s c j.call OFFER_BYTES (readers.Server is.0) is.1 l other)
want-leaves s c j wants.Write l e is other =
    let bytes : List ℕ = accepted (take OFFER_BYTES j.reply) is.0 in
    let writing : CallRecord → CallRecord = λ k. record k { looks = after_write bytes k.looks } in
    subst (λ (f : Event). LeavesBy s c l f) (sym is.1)
    (other-stays c j.call writing l (on_looks j.call (after_write bytes) l)
    (call-changed c j.call writing l (λ k. refl)) other)
want-leaves s c j (wants.Finish code) l e is other =
    subst (λ (f : Event). LeavesBy s c l f) (sym is.1) (finish-leaves s c j.call code is.0 l other)

-- ---- a step of another job

-- the call is at the server as it was
abbrev pub Stays : Setup → CallName → Stage → Stage → Type 0
Stays server c s t = call_at (looks server (side 0 t.history)) c ≡ call_at (looks server (side 0 s.history)) c

asked-leaves : (g : Handlers) (server : Setup) (c : CallName) (m : Moving) (a : Ask) (l : Looks) (e : Event)
    → (serving g).asks m ≡ Some a → IsCall a e → same_name c m.job.call ≡ false → LeavesBy server c l e
asked-leaves g server c m a l e asked is other = of (want_in m.phase m.job) refl asked
  where
    some_is : (x y : Ask) → ◌≡◌ {A = Option Ask} (Some x) (Some y) → x ≡ y
    some_is x y same = cc

    of : (o : Option Want) → want_in m.phase m.job ≡ o → option_map (ask_of m.job) o ≡ Some a → LeavesBy server c l e
    of None wants_none same = absurd cc
    of (Some w) wants same =
        want-leaves server c m.job w l e
        (subst (λ (x : Ask). IsCall x e) (sym (some_is (ask_of m.job w) a same)) is) other

-- leaves it
pub step_leaves : (g : Handlers) (server : Setup) (c : CallName) (m n : Moving) (s t : Stage)
    → same_name c m.job.call ≡ false → StepGoes g m s n t → Stays server c s t
step_leaves g server c m n s t other step = of m s step.0 (To (n, t)) step.1 other refl
  where
    to_same : (a b : Moving × Stage) → ◌≡◌ {A = Came (Moving × Stage)} (To a) (To b) → a ≡ b
    to_same a b is = cc

    of : (m : Moving) (s : Stage) (es : List Noted) (out : Came (Moving × Stage)) → Turn (serving g) 0 m s es out
        → same_name c m.job.call ≡ false → out ≡ To (n, t) → Stays server c s t
    of m s es out (cut_there x y) other is = absurd cc
    of m s es out (is_over x y none) other is =
        ap (λ (z : Moving × Stage). call_at (looks server (side 0 z.1.history)) c) (sym (to_same (m, s) (n, t) is))
    of m s es out (goes x y a e more o asked allowed rest) other is =
        of ((serving g).heard m e) (with_event 0 e s) more out rest
        (ap (same_name c) (heard-call g m.job e) ∙ other) is
        ∙ asked-leaves g server c m a (looks server (side 0 s.history)) e asked allowed.0 other
    of m s es out (is_endless x y fs cut long) other is = absurd cc

-- none of these jobs is of the call
abbrev pub AreOthers : CallName → List JobState → Type 0
AreOthers c [] = Unit {0}
AreOthers c (j ∷ js) = (same_name c j.call ≡ false) × AreOthers c js
