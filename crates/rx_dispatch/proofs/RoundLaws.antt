-- A turn, by the job whose step it is.
use Rattle.std.proofs.Common.{◌≡◌, ℕ, ◌+◌, ◌<◌, List, [], ◌∷◌, ◌++◌, length, take, drop, Option, Some}
use Rattle.std.proofs.Common.{refl, sym, ap, ◌∙◌, subst, option_map}
use Rattle.std.proofs.Math.ListN.{get_or, set}
use Rattle.std.proofs.lemmas.List.{take-set, drop-set}
use Rattle.rx_model.specs.declared.event.Event.{Event}
use Rattle.rx_rules.specs.Classes.{Class}
use Rattle.rx_server.specs.Server.{ServerState}
use Rattle.rx_dispatch.specs.declared.deciding.Found.{Found}
use Rattle.rx_dispatch.specs.declared.job.Next.{Next}
use Rattle.rx_dispatch.specs.declared.job.Next.TheVariants as nexts
use Rattle.rx_jobs.specs.declared.job.Phase.{Phase}
use Rattle.rx_jobs.specs.declared.job.Want.{Want}
use Rattle.rx_dispatch.specs.declared.round.Stage.{Stage}
use Rattle.rx_dispatch.specs.declared.round.Stage.TheVariants as stages
use Rattle.rx_jobs.specs.Handlers.{Handlers}
use Rattle.rx_dispatch.specs.Desks.{IsRemembered}
use Rattle.rx_jobs.specs.Jobs.{JobState, Moving, ask_of, heard, is_staying, serving}
use Rattle.rx_dispatch.specs.Rounds.{resolved}
use Rattle.rx_dispatch.specs.Rounds.{RoundState, serving_at}
use Rattle.rx_jobs.specs.Dispatching.{dispatching, kept, proceed, serves, settle}
use Rattle.rx_dispatch.specs.Rounds.{Passes, turning_at, turning_of}
use Rattle.rx_dispatch.specs.Calls.{Called, Grows}
use Rattle.rx_dispatch.specs.Making.{MakesCall, Ready, Remembers, WantsNone, first_request}
use Rattle.rx_dispatch.proofs.Remembered.{remembered_more}
use Rattle.rx_dispatch.proofs.StepLaws.{at_place, first_is, passed_front, passed_rest, rest_is, settle-asks}
use Rattle.rx_dispatch.proofs.StepLaws.{settle-over}

-- a turn that serves, by the job whose step it is
pub serves_by : (g : Handlers) (r : RoundState) (j : JobState) (todo : List JobState) → r.stage ≡ stages.Serving
    → drop r.place r.jobs ≡ j ∷ todo
    → turning_of g r ≡ settle g (take r.place r.jobs) (resolved g r.next j) todo
serves_by g r j todo serving at =
    ap (λ (s : Stage). turning_at g s r) serving ∙ ap (serving_at g r.next (take r.place r.jobs)) at

-- the job whose step it is becomes another one
pub record Becomes (old new : RoundState) (j k : JobState) : Type 0 where
  pub serving : new.stage ≡ stages.Serving
  pub within : old.place < length old.jobs
  pub is : j ≡ get_or old.jobs old.place j
  pub place : new.place ≡ old.place
  pub jobs : new.jobs ≡ set old.jobs old.place k

module _ (g : Handlers) (old new : RoundState) (j k : JobState) (b : Becomes old new j k) where
  -- before
  pub was_at : drop old.place old.jobs ≡ j ∷ drop (old.place + 1) old.jobs
  was_at = at_place old.jobs old.place j b.within b.is

  -- behind it
  pub is_at : drop new.place new.jobs ≡ k ∷ drop (old.place + 1) old.jobs
  is_at =
      ap (λ (n : ℕ). drop n new.jobs) b.place ∙ ap (drop old.place) b.jobs ∙ drop-set old.jobs old.place k b.within

  front_is : take new.place new.jobs ≡ take old.place old.jobs
  front_is =
      ap (λ (n : ℕ). take n new.jobs) b.place ∙ ap (take old.place) b.jobs ∙ take-set old.jobs old.place k

  -- the turn behind it
  pub becomes : turning_of g new ≡ settle g (take old.place old.jobs) (resolved g new.next k)
      (drop (old.place + 1) old.jobs)
  becomes =
      serves_by g new k (drop (old.place + 1) old.jobs) b.serving is_at
      ∙ ap (λ (done : List JobState). settle g done (resolved g new.next k) (drop (old.place + 1) old.jobs)) front_is

  -- what is remembered before is of its request
  pub remembered_before : (found : Option Found) → IsRemembered g (first_request (drop old.place old.jobs)) found
      → IsRemembered g j.request found
  remembered_before found is =
      subst (λ (js : List JobState). IsRemembered g (first_request js) found) was_at is

  -- and behind it
  pub remembered_behind : (found : Option Found) → IsRemembered g k.request found
      → IsRemembered g (first_request (drop new.place new.jobs)) found
  remembered_behind found is =
      subst (λ (js : List JobState). IsRemembered g (first_request js) found) (sym is_at) is

-- ---- a job that wants a call

-- the turn of one that wants a call
pub ready_serves : (g : Handlers) (r : RoundState) (want : Want) (x : Ready r want) → r.stage ≡ stages.Serving
    → turning_of g r ≡ serves (take r.place r.jobs) (record { job = x.job; phase = x.phase }) x.todo
ready_serves g r want x serving =
    serves_by g r x.job x.todo serving x.at
    ∙ ap (λ (n : Next). settle g (take r.place r.jobs) (resolved g n x.job) x.todo) x.next
    ∙ settle-asks g (take r.place r.jobs) (record { job = x.job; phase = x.phase }) x.todo (ask_of x.job want)
    (ap (option_map (ask_of x.job)) x.wants)

-- it asks for it
pub ready_asks : (g : Handlers) (r : RoundState) (want : Want) (x : Ready r want) → r.stage ≡ stages.Serving
    → (dispatching g).asks (turning_of g r) ≡ Some (ask_of x.job want)
ready_asks g r want x serving =
    ap (dispatching g).asks (ready_serves g r want x serving) ∙ ap (option_map (ask_of x.job)) x.wants

-- and behind the call the turn heard it
pub ready_hears : (g : Handlers) (old new : RoundState) (want : Want) (x : Ready old want) (k : JobState) (e : Event)
    → old.stage ≡ stages.Serving → Becomes old new x.job k → resolved g new.next k ≡ heard g x.job e
    → turning_of g new ≡ (dispatching g).heard (turning_of g old) e
ready_hears g old new want x k e served b hears =
    becomes g old new x.job k b
    ∙ ap (λ (m : Moving). settle g (take old.place old.jobs) m (drop (old.place + 1) old.jobs)) hears
    ∙ ap (settle g (take old.place old.jobs) (heard g x.job e)) (rest_is (was_at g old new x.job k b) x.at)
    ∙ sym (ap (λ t. (dispatching g).heard t e) (ready_serves g old want x served))

module _ (class : List ℕ → Class) (g : Handlers) (old new : RoundState) (want : Want) (x : Ready old want)
    (j k : JobState) (before after : ServerState) (e : Event) where
  -- the job that wants it makes it
  pub ready_calls : old.stage ≡ stages.Serving → Becomes old new j k → Called class j want k new.next before after e
      → MakesCall class g (turning_of g old) (turning_of g new) before after e
  ready_calls served b called =
      let same : j ≡ x.job = first_is (was_at g old new j k b) x.at in
      let own : Becomes old new x.job k = subst (λ (y : JobState). Becomes old new y k) same b in
      let makes : Called class x.job want k new.next before after e =
      subst (λ (y : JobState). Called class y want k new.next before after e) same called in
      record {
        ask = ask_of x.job want;
        asked = ready_asks g old want x served;
        is = makes.is;
        answered = makes.answered;
        told = ready_hears g old new want x k e served own (makes.hearing g);
      }

-- what was remembered stays so where more of its request came
pub ready_remembers : (g : Handlers) (old new : RoundState) (j k : JobState) → Becomes old new j k
    → Grows j.request k.request → Remembers g old
    → IsRemembered g (first_request (drop new.place new.jobs)) old.found
ready_remembers g old new j k b grows is =
    remembered_behind g old new j k b old.found
    (subst (λ (q : List ℕ). IsRemembered g q old.found) (sym grows.is)
    (remembered_more g j.request grows.more old.found grows.fits (remembered_before g old new j k b old.found is)))

-- ---- a job whose step is over

-- where no step began the first of the jobs begins with its own
pub begins_proceeds : (g : Handlers) (done todo : List JobState)
    → serving_at g nexts.Begin done todo ≡ proceed g done todo
begins_proceeds g done [] = refl
begins_proceeds g done (j ∷ js) = refl

-- behind one that wants none the next one begins, in its place where it left
pub passes_on : (g : Handlers) (old new : RoundState) (phase : Phase) (x : WantsNone old phase)
    → old.stage ≡ stages.Serving → new.stage ≡ stages.Serving → new.next ≡ nexts.Begin
    → Passes old.jobs new.jobs old.place new.place (is_staying phase)
    → turning_of g new ≡ turning_of g old
passes_on g old new phase x served serving begins passes =
    let m : Moving = record { job = x.job; phase = phase } in
    let done : List JobState = take old.place old.jobs in
    let front : take new.place new.jobs ≡ done ++ kept (is_staying phase) x.job =
    passed_front old.jobs new.jobs old.place new.place x.job x.todo (is_staying phase) x.within x.at passes in
    let rest : drop new.place new.jobs ≡ x.todo =
    passed_rest old.jobs new.jobs old.place new.place x.job x.todo (is_staying phase) x.within x.at passes in
    ap (λ (s : Stage). turning_at g s new) serving
    ∙ ap (λ (n : Next). serving_at g n (take new.place new.jobs) (drop new.place new.jobs)) begins
    ∙ begins_proceeds g (take new.place new.jobs) (drop new.place new.jobs)
    ∙ ap (λ (d : List JobState). proceed g d (drop new.place new.jobs)) front
    ∙ ap (proceed g (done ++ kept (is_staying phase) x.job)) rest
    ∙ sym (settle-over g done m x.todo (ap (option_map (ask_of x.job)) x.none))
    ∙ sym (serves_by g old x.job x.todo served x.at
    ∙ ap (λ (n : Next). settle g done (resolved g n x.job) x.todo) x.next)
