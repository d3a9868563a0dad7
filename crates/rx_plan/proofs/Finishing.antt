-- A handler's good end: it read the whole request, and wrote the whole reply or decided a code.
use Rattle.std.proofs.Common.{◌≡◌, ◌≤◌, ◌⊎◌, ℤ, pos, Bool, true, false, List, [], ◌∷◌, ◌++◌, Option, Some}
use Rattle.std.proofs.Common.{None, option_map, Result, Ok, refl, inl, inr, ◌∙◌, ap, sym, subst, arith}
use Rattle.rx_model.specs.declared.answers.ServeRefused.{ServeRefused}
use Rattle.rx_model.specs.declared.answers.WroteGot.TheVariants as writers
use Rattle.rx_model.specs.declared.event.Event.{Event}
use Rattle.rx_model.specs.declared.event.Event.TheVariants as events
use Rattle.rx_model.specs.declared.names.CallName.{CallName}
use Rattle.rx_rules.specs.After.{looks}
use Rattle.rx_rules.specs.Looks.{Looks, call_at}
use Rattle.rx_rules.specs.Rules.{AllowedServer, Legal}
use Rattle.rx_rules.specs.Setup.{Setup, IsServer}
use Rattle.rx_rules.proofs.EveryLaws.{Every}
use Rattle.rx_history.specs.Counts.{Once, times_accepted}
use Rattle.rx_history.specs.Starts.{StartsOnce}
use Rattle.rx_history.proofs.Laws.OnceLaw.{served}
use Rattle.rx_jobs.specs.Dispatching.{Turning, accepts, serves, over, dispatching}
use Rattle.rx_jobs.specs.Handlers.{Handlers}
use Rattle.rx_jobs.specs.History.{Drives, gives, handles, is_accept, life_of, turn_calls}
use Rattle.rx_jobs.specs.History as driven
use Rattle.rx_jobs.specs.Jobs.{Ask, accept, finish, read, write, IsCall, JobState, Moving, ask_of, serving, want_in}
use Rattle.rx_jobs.specs.Lives.{HasCount, MayFinish, has_gone}
use Rattle.rx_jobs.specs.declared.job.Want.{Want}
use Rattle.rx_jobs.specs.declared.job.Want.TheVariants as wants
use Rattle.rx_jobs.proofs.Driving.{drives_exact}
use Rattle.rx_plan.proofs.Gone.{gone_past, past_unfinished}
use Rattle.rx_plan.proofs.Handling.{IsQuiet, Serves, accepted-more, accepted-one, quiet-off, turn_accepted}
use Rattle.rx_plan.proofs.Handling as handling

-- ---- a dispatcher drives its server's history

pub count_of : (s : Setup) (l : Looks) (e : Event) → AllowedServer s l e → HasCount e
count_of s l (events.Wrote c offered (writers.Server (Ok n)) came) allowed = allowed.2
count_of s l _ allowed = tt

pub once_before : (e : Event) (h : List Event) → Once (e ∷ h) → Once h
once_before e h once c = let more = accepted-more e h c in let one = once c in omega arith

none_given : (e : Event) (h : List Event) (cs : List CallName) → Once (e ∷ h)
    → Every (λ c. 1 ≤ times_accepted h c) cs → Every (λ c. gives c e ≡ false) cs
none_given e h [] once all = tt
none_given e h (c ∷ cs) once all = (by (gives c e) refl, none_given e h cs once all.1)
  where
    by : (b : Bool) → gives c e ≡ b → b ≡ false
    by true given =
        (let most = once c in
        let one = accepted-one e h c given in
        let before = all.0 in
        absurd (omega arith))
    by false given = refl

quiet_accept : (e : Event) → IsQuiet e → is_accept e ≡ false
quiet_accept (events.Accepted got) quiet = absurd quiet
quiet_accept _ quiet = refl

none_handled : (e : Event) (cs : List CallName) → IsQuiet e → Every (λ c. handles c e ≡ false) cs
none_handled e [] quiet = tt
none_handled e (c ∷ cs) quiet = (quiet-off e c quiet, none_handled e cs quiet)

pub serves_drives : (g : Handlers) (s : Setup) {t : Turning} {h : List Event} → Serves g t h → IsServer s.kind
    → Legal s h → Once h → Drives g t h
serves_drives g s handling.starts server legal once = driven.starts []
serves_drives g s (handling.begins jobs h sv) server legal once =
    driven.begins jobs h (serves_drives g s sv server legal once)
serves_drives g s (handling.makes t a e h asked is sv) server legal once =
    driven.makes t a e h asked is (count_of s (looks s h) e (served s.kind s (looks s h) e server legal.0))
    (none_given e h (turn_calls t) once (turn_accepted g sv))
    (serves_drives g s sv server legal.1 (once_before e h once))
serves_drives g s (handling.leaves t e h quiet sv) server legal once =
    driven.leaves t e h (quiet_accept e quiet) (none_handled e (turn_calls t) quiet)
    (serves_drives g s sv server legal.1 (once_before e h once))

-- ---- the job that finishes

-- a job that is about to finish its call with this code
pub record Finishing (g : Handlers) (c : CallName) (code : ℤ) (before : List Event) : Type 0 where
  pub done : List JobState
  pub job : Moving
  pub todo : List JobState
  pub serving_it : Serves g (serves done job todo) before
  pub asks : (serving g).asks job ≡ Some (finish c code)

finish_asked : (a : Ask) (c : CallName) (code : ℤ) (got : Result (Unit {0}) ServeRefused)
    → IsCall a (events.Finished c code got) → a ≡ finish c code
finish_asked accept c code got is = absurd (let never = is.1 in cc)
finish_asked (read d) c code got is = absurd (let never = is.2 in cc)
finish_asked (write d offer) c code got is = absurd (let never = is.1 in cc)
finish_asked (finish d told) c code got is = (let same = is.1 in cc)

by_turning : (g : Handlers) (t : Turning) (a : Ask) (c : CallName) (code : ℤ) (got : Result (Unit {0}) ServeRefused)
    (before : List Event) → (dispatching g).asks t ≡ Some a → IsCall a (events.Finished c code got)
    → Serves g t before → Finishing g c code before
by_turning g (accepts jobs) a c code got before asked is sv =
    let same = finish_asked a c code got is in
    absurd (let never : accept ≡ a = cc in let no : accept ≡ finish c code = never ∙ same in cc)
by_turning g (serves done m todo) a c code got before asked is sv =
    record {
      done = done;
      job = m;
      todo = todo;
      serving_it = sv;
      asks = asked ∙ ap (λ (b : Ask). Some b) (finish_asked a c code got is);
    }
by_turning g (over jobs) a c code got before asked is sv = absurd cc

pub nothing_splits : {X : Type 0} (later before : List Event) (e : Event) → [] ≡ later ++ e ∷ before → X
nothing_splits [] before e is = absurd cc
nothing_splits (d ∷ later) before e is = absurd cc

-- each finish of the server is such a job's
pub finishing : (g : Handlers) (c : CallName) (code : ℤ) (got : Result (Unit {0}) ServeRefused) (before : List Event)
    {t : Turning} {h : List Event} → Serves g t h → (later : List Event)
    → h ≡ later ++ events.Finished c code got ∷ before → Finishing g c code before
finishing g c code got before handling.starts later is =
    nothing_splits later before (events.Finished c code got) is
finishing g c code got before (handling.begins jobs h sv) later is = finishing g c code got before sv later is
finishing g c code got before (handling.makes t a e h asked made sv) [] is =
    let event_is : e ≡ events.Finished c code got = cc in
    let before_is : h ≡ before = cc in
    by_turning g t a c code got before asked (subst (λ (x : Event). IsCall a x) event_is made)
    (subst (λ (past : List Event). Serves g t past) before_is sv)
finishing g c code got before (handling.makes t a e h asked made sv) (d ∷ later) is =
    finishing g c code got before sv later (let rest : h ≡ later ++ events.Finished c code got ∷ before = cc in rest)
finishing g c code got before (handling.leaves t e h quiet sv) [] is =
    let event_is : e ≡ events.Finished c code got = cc in absurd (subst IsQuiet event_is quiet)
finishing g c code got before (handling.leaves t e h quiet sv) (d ∷ later) is =
    finishing g c code got before sv later (let rest : h ≡ later ++ events.Finished c code got ∷ before = cc in rest)

-- it is its own call's
own_call : (g : Handlers) (m : Moving) (c : CallName) (code : ℤ) → (serving g).asks m ≡ Some (finish c code)
    → m.job.call ≡ c
own_call g m c code asked = by (want_in m.phase m.job) asked
  where
    of : (w : Want) → ask_of m.job w ≡ finish c code → m.job.call ≡ c
    of wants.Read is = absurd cc
    of wants.Write is = absurd cc
    of (wants.Finish told) is = cc

    by : (o : Option Want) → option_map (ask_of m.job) o ≡ Some (finish c code) → m.job.call ≡ c
    by None none = absurd cc
    by (Some w) some = of w (let same : ask_of m.job w ≡ finish c code = cc in same)

-- where the finish answers ok, it is one that the law of a life allows
pub finishes_exactly : (g : Handlers) (s : Setup) (c : CallName) (code : ℤ) (before : List Event) → IsServer s.kind
    → Legal s (events.Finished c code (Ok tt) ∷ before) → Once before → StartsOnce s before c
    → Finishing g c code before → MayFinish g (life_of c before) code
finishes_exactly g s c code before server legal once starts f =
    let own : f.job.job.call ≡ c = own_call g f.job c code f.asks in
    let exact = (drives_exact g (serves f.done f.job f.todo) before
    (serves_drives g s f.serving_it server legal.1 once)).1 in
    subst (λ (d : CallName). MayFinish g (life_of d before) code) own
    (by (exact.finishes code (subst (λ (d : CallName). (serving g).asks f.job ≡ Some (finish d code)) (sym own) f.asks))
    own)
  where
    by : {d : CallName} → ((has_gone (life_of d before) ≡ true) × (code ≡ pos 0)) ⊎ MayFinish g (life_of d before) code
        → d ≡ c → MayFinish g (life_of d before) code
    by (inr may) own = may
    by (inl gone) own =
        absurd (past_unfinished (call_at (looks s before) c) code
        (gone_past s before c server legal.1 starts
        (subst (λ (x : CallName). has_gone (life_of x before) ≡ true) own gone.0))
        (served s.kind s (looks s before) (events.Finished c code (Ok tt)) server legal.0).1)
