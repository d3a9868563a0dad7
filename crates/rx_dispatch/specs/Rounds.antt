-- A dispatcher between the calls of its turn. Public clauses cite this module.
use Rattle.std.specs.Prelude.{◌≡◌, ◌+◌, ℕ, Bool, true, false, List, [], ◌++◌, take, drop, Option, None, ◌∷◌}
use Rattle.rx_jobs.specs.Handlers.{Handlers}
use Rattle.rx_jobs.specs.declared.job.Phase.TheVariants as phases
use Rattle.rx_script.specs.Saying.{Answering}
use Rattle.rx_jobs.specs.Jobs.{JobState, Moving, moving, settled, grown}
use Rattle.rx_jobs.specs.Dispatching.{Turning, accepts, over, settle}
use Rattle.rx_dispatch.specs.declared.job.Next.{Next}
use Rattle.rx_dispatch.specs.declared.job.Next.TheVariants as nexts
use Rattle.rx_dispatch.specs.declared.deciding.Found.{Found}
use Rattle.rx_dispatch.specs.declared.round.Stage.{Stage}
use Rattle.rx_dispatch.specs.declared.round.Stage.TheVariants as stages

-- a job behind what it still has to do before its next call
abbrev pub resolved : Handlers → Next → JobState → Moving
resolved g nexts.Begin j = moving g j
resolved g (nexts.Judge before) j = record { job = grown g before j; phase = phases.Moves }
resolved g nexts.Settle j = record { job = settled g 0 j; phase = phases.Moves }
resolved g (nexts.Go phase) j = record { job = j; phase = phase }

-- the jobs of a dispatcher, in the order of acceptance; where its turn stands; the place of the job whose step it is;
-- what that one still has to do before its next call; and its arguments, where they were found whole
pub record RoundState : Type 0 where
  pub jobs : List JobState
  pub stage : Stage
  pub place : ℕ
  pub next : Next
  pub found : Option Found

-- these jobs, and no turn under way
abbrev pub resting : List JobState → RoundState
resting jobs = record { jobs = jobs; stage = stages.Resting; place = 0; next = nexts.Begin; found = None }

-- a turn begins
abbrev pub begun_turn : RoundState → RoundState
begun_turn r = record r { stage = stages.Accepting; found = None }

-- a dispatcher: its script, and its jobs with where its turn stands
pub record DispatcherState : Type 0 where
  pub script : List Answering
  pub round : RoundState

-- these had their steps; the first of those goes on with its own, behind what it still has to do before its next call
abbrev pub serving_at : Handlers → Next → List JobState → List JobState → Turning
serving_at g next done [] = over done
serving_at g next done (j ∷ js) = settle g done (resolved g next j) js

-- by where it stands
abbrev pub turning_at : Handlers → Stage → RoundState → Turning
turning_at g stages.Resting r = over r.jobs
turning_at g stages.Accepting r = accepts r.jobs
turning_at g stages.Serving r = serving_at g r.next (take r.place r.jobs) (drop r.place r.jobs)

-- where its turn stands, with all done that is still to be done before its next call
abbrev pub turning_of : Handlers → RoundState → Turning
turning_of g r = turning_at g r.stage r

-- the step of the job at a place is over: where it stays the next one stands behind it, else in its place
abbrev pub Passes : List JobState → List JobState → ℕ → ℕ → Bool → Type 0
Passes old new place next true = (next ≡ place + 1) × (new ≡ old)
Passes old new place next false = (next ≡ place) × (new ≡ take place old ++ drop (place + 1) old)
