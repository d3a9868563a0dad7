-- The steps that a call's job waits behind the end of its request: there are so many, and with each of them the call is
-- further, as it is with each part of its ends.
use Rattle.std.proofs.Common.{◌≡◌, ◌≤◌, ◌<◌, ◌+◌, ◌*◌, ◌&&◌, ◌||◌, ◌++◌, not, cond, if◌then◌else◌, is_some, ℕ, ℤ, suc}
use Rattle.std.proofs.Common.{Bool, true, false, List, [], ◌∷◌, Option, Some, None, refl, ◌∙◌, ap, sym, subst, inl, inr}
use Rattle.std.proofs.Common.{arith}
use Rattle.std.specs.List.{find}
use Rattle.rx_model.specs.declared.names.CallName.{CallName}
use Rattle.rx_model.specs.Names.{same_name}
use Rattle.rx_model.proofs.NameLaws.{name_itself}
use Rattle.rx_rules.specs.Life.{Life, is_handled, is_waiting}
use Rattle.rx_rules.specs.Life as lives
use Rattle.rx_rules.specs.Looks.{CallRecord}
use Rattle.rx_history.specs.Sides.{Node}
use Rattle.rx_script.specs.declared.plan.Numbered.{Numbered}
use Rattle.rx_jobs.specs.Handlers.{Handlers, wait_of}
use Rattle.rx_jobs.specs.Jobs.{JobState}
use Rattle.rx_plan.specs.Answering.{request_for}
use Rattle.rx_plan.specs.Stages.{Stage}
use Rattle.rx_plan.proofs.Driven.{seen}
use Rattle.rx_plan.proofs.Followed.{IsFollowed}
use Rattle.rx_closing.specs.Work.{work_of}
use Rattle.rx_closing.proofs.Far.FarGrows.{FurtherOf, GoesOn}
use Rattle.rx_closing.proofs.Far.FarStands.{both_far}
use Rattle.rx_closing.proofs.Far.FarWork.{IsCaused, far_work}
use Rattle.rx_closing.proofs.Frame.{OneOf, rank_of, served_in}
use Rattle.rx_closing.proofs.Server.JobSeen.{AreOthers}

-- ---- the job of a call

-- the first that is of the call
abbrev pub job_of : CallName → List JobState → Option JobState
job_of c js = find (λ (j : JobState). same_name c j.call) js

-- there is none among jobs of others
pub job_none : (c : CallName) (js : List JobState) → AreOthers c js → job_of c js ≡ None
job_none c [] others = refl
job_none c (j ∷ js) others =
    ap (λ (b : Bool). cond b (Some j) (job_of c js)) others.0 ∙ job_none c js others.1

-- behind jobs of others it is the one
pub job_found : (c : CallName) (front : List JobState) (j : JobState) (back : List JobState) → AreOthers c front
    → j.call ≡ c → job_of c (front ++ j ∷ back) ≡ Some j
job_found c [] j back others own =
    ap (λ (b : Bool). cond b (Some j) (job_of c back))
    (subst (λ (d : CallName). same_name c d ≡ true) (sym own) (name_itself c))
job_found c (i ∷ front) j back others own =
    ap (λ (b : Bool). cond b (Some i) (job_of c (front ++ j ∷ back))) others.0
    ∙ job_found c front j back others.1 own

-- ---- how far it is

-- of a job that read its request to the end: one more than the steps that it waited; all of them once it decided, and
-- where it is gone
abbrev pub job_way : ℕ → Option JobState → ℕ
job_way most None = suc most
job_way most (Some j) = if is_some j.code then suc most else suc j.steps

-- of a call as its server has it: none until its request was read to the end; and all of them behind its handler
abbrev pub waited : ℕ → CallName → Option CallRecord → List JobState → ℕ
waited most c None js = 0
waited most c (Some r) js =
    if r.looks.received.ended && not (is_waiting r.life)
    then (if is_handled r.life then job_way most (job_of c js) else suc most) else 0

-- a job waits no more than so many steps
abbrev pub IsJobLow : ℕ → Option JobState → Type 0
IsJobLow most None = Unit {0}
IsJobLow most (Some j) = is_some j.code ≡ false → j.steps ≤ most

pub job_low : (most : ℕ) (o : Option JobState) → IsJobLow most o → job_way most o ≤ suc most
job_low most None low = omega arith
job_low most (Some j) low = of (is_some j.code) low
  where
    of : (b : Bool) → (b ≡ false → j.steps ≤ most) → (if b then suc most else suc j.steps) ≤ suc most
    of true low = omega arith
    of false low = (let few = low refl in omega (arith, few))

-- so a call is no further than that
pub waited_low : (most : ℕ) (c : CallName) (o : Option CallRecord) (js : List JobState) → IsJobLow most (job_of c js)
    → waited most c o js ≤ suc most
waited_low most c None js low = omega arith
waited_low most c (Some r) js low =
    of (r.looks.received.ended && not (is_waiting r.life)) (is_handled r.life)
  where
    of : (b h : Bool) → (if b then (if h then job_way most (job_of c js) else suc most) else 0) ≤ suc most
    of true true = job_low most (job_of c js) low
    of true false = omega arith
    of false h = omega arith

-- ---- it only grows

-- no call comes to wait for a handler
waits_less : (x y : Life) → GoesOn x y → is_waiting x ≡ false → is_waiting y ≡ false
waits_less x y (inl same) other = ap is_waiting same ∙ other
waits_less x y (inr later) other = of y later.rank
  where
    of : (w : Life) → rank_of x < rank_of w → is_waiting w ≡ false
    of lives.Waiting less = absurd (omega (arith, less))
    of _ less = refl

-- a handler has it only where one had it or it waited for one
handled_from : (x y : Life) → GoesOn x y → is_handled y ≡ true → (is_waiting x || is_handled x) ≡ true
handled_from x y (inl same) is = either (is_waiting x) (is_handled x) (sym (ap is_handled same) ∙ is)
  where
    either : (a b : Bool) → b ≡ true → (a || b) ≡ true
    either true b is = refl
    either false b is = is
handled_from x y (inr later) is = later.handled is

-- between two moments, where the job of a call that a handler has at both is no less far
pub waited_grows : (most : ℕ) (c : CallName) (o p : Option CallRecord) (js ks : List JobState) → FurtherOf o p
    → IsJobLow most (job_of c js) → job_way most (job_of c js) ≤ job_way most (job_of c ks)
    → waited most c o js ≤ waited most c p ks
waited_grows most c None p js ks further low more = omega arith
waited_grows most c (Some a) None js ks further low more = absurd further
waited_grows most c (Some a) (Some b) js ks further low more =
    by a.looks.received.ended (is_waiting a.life) (is_handled a.life) b.looks.received.ended (is_waiting b.life)
    (is_handled b.life) further.grows.ended (waits_less a.life b.life further.life)
    (handled_from a.life b.life further.life)
  where
    few : job_way most (job_of c js) ≤ suc most
    few = job_low most (job_of c js) low

    by : (e w h f v g : Bool) → (e ≡ true → f ≡ true) → (w ≡ false → v ≡ false) → (g ≡ true → (w || h) ≡ true)
        → (if e && not w then (if h then job_way most (job_of c js) else suc most) else 0)
        ≤ (if f && not v then (if g then job_way most (job_of c ks) else suc most) else 0)
    by false w h f v g ended waits handled = omega arith
    by true true h f v g ended waits handled = omega arith
    by true false h false v g ended waits handled = absurd (let wrong = ended refl in cc (wrong))
    by true false h true true g ended waits handled = absurd (let wrong = waits refl in cc (wrong))
    by true false true true false true ended waits handled = more
    by true false true true false false ended waits handled = few
    by true false false true false true ended waits handled = absurd (let wrong = handled refl in cc (wrong))
    by true false false true false false ended waits handled = omega arith

-- ---- a step more

-- a call that a handler has, and that read its request to the end
pub record IsAtWork (r : CallRecord) : Type 0 where
  pub ended : r.looks.received.ended ≡ true
  pub handled : is_handled r.life ≡ true

not_waiting : (x : Life) → is_handled x ≡ true → is_waiting x ≡ false
not_waiting lives.Waiting is = absurd cc
not_waiting _ is = refl

at_work : (most : ℕ) (c : CallName) (r : CallRecord) (js : List JobState) (j : JobState) → IsAtWork r
    → job_of c js ≡ Some j → j.code ≡ None → waited most c (Some r) js ≡ suc j.steps
at_work most c r js j work there undecided =
    of r.looks.received.ended (is_waiting r.life) (is_handled r.life) work.ended
    (not_waiting r.life work.handled) work.handled
    ∙ ap (job_way most) there ∙ ap (λ (o : Option ℤ). if is_some o then suc most else suc j.steps) undecided
  where
    of : (e w h : Bool) → e ≡ true → w ≡ false → h ≡ true
        → (if e && not w then (if h then job_way most (job_of c js) else suc most) else 0) ≡ job_way most (job_of c js)
    of true false true ended waits handled = refl
    of false w h ended waits handled = absurd cc
    of true true h ended waits handled = absurd cc
    of true false false ended waits handled = absurd cc

module _ (most : ℕ) (c : CallName) (r f : CallRecord) (js ks : List JobState) (i j : JobState) where
  -- with each step that its job waits more it is further
  pub waited_more : IsAtWork r → IsAtWork f → job_of c js ≡ Some i → job_of c ks ≡ Some j → i.code ≡ None
      → j.code ≡ None → i.steps < j.steps → waited most c (Some r) js < waited most c (Some f) ks
  waited_more first second there behind open_ still less =
      let before = at_work most c r js i first there open_ in
      let after_it = at_work most c f ks j second behind still in
      by (waited most c (Some r) js) (waited most c (Some f) ks) i.steps j.steps before after_it less
    where
      by : (m n a b : ℕ) → m ≡ suc a → n ≡ suc b → a < b → m < n
      by m n a b first second less = omega (arith, first, second, less)

-- ---- all that is done for a call

-- its way at both ends, and the steps that its job waited
abbrev pub way_of : ℕ → CallName → ℕ → Node → Node → Stage → ℕ
way_of most c k client server s = both_far c k client server s + waited most c (served_in c server s) s.jobs

-- five times its work is more
pub way_low : (g : Handlers) (ls : List Numbered) (c : CallName) (k : ℕ) (client server : Node) (s : Stage)
    (scene : OneOf c k client server s) (follows : IsFollowed g ls (seen s)) (i : IsCaused g ls c k client s)
    → IsJobLow (wait_of g (request_for g i.caller.origin.invoke)) (job_of c s.jobs)
    → way_of (wait_of g (request_for g i.caller.origin.invoke)) c k client server s + 18 ≤ 5 * work_of g ls s c
way_low g ls c k client server s scene follows i low =
    by (both_far c k client server s)
    (waited (wait_of g (request_for g i.caller.origin.invoke)) c (served_in c server s)
    s.jobs)
    (wait_of g (request_for g i.caller.origin.invoke)) (work_of g ls s c)
    (far_work g ls c k client server s scene follows i)
    (waited_low (wait_of g (request_for g i.caller.origin.invoke)) c (served_in c server s) s.jobs low)
  where
    by : (m n t w : ℕ) → m + 5 * t + 19 ≤ 5 * w → n ≤ suc t → m + n + 18 ≤ 5 * w
    by m n t w all few = omega (arith, all, few)
