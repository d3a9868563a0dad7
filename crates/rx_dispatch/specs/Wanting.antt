-- Where the next call of a turn wants memory. Public clauses cite this module.
use Rattle.std.specs.Prelude.{◌≡◌, nat_lt, true, List, [], ◌∷◌, length, drop, Option, Some, None}
use Rattle.rx_dispatch.specs.Rounds.{RoundState, turning_of}
use Rattle.rx_jobs.specs.Dispatching.{Turning}
use Rattle.rx_jobs.specs.Handlers.{Handlers}
use Rattle.rx_jobs.specs.Jobs.{JobState, waits, want_in}
use Rattle.rx_jobs.specs.Keeping.{kept_of}
use Rattle.rx_dispatch.specs.declared.job.Next.{Next}
use Rattle.rx_dispatch.specs.declared.job.Next.TheVariants as nexts
use Rattle.rx_jobs.specs.declared.job.Want.{Want}
use Rattle.rx_jobs.specs.declared.job.Want.TheVariants as wants
use Rattle.rx_dispatch.specs.declared.round.Stage.{Stage}
use Rattle.rx_dispatch.specs.declared.round.Stage.TheVariants as stages

-- a call of a job takes memory for bytes: a read or a write, and no finish
abbrev pub CopiesBytes : Option Want → Type 0
CopiesBytes None = ⊥
CopiesBytes (Some wants.Read) = Unit {0}
CopiesBytes (Some wants.Write) = Unit {0}
CopiesBytes (Some (wants.Finish code)) = ⊥

-- what a job still has to do before its next call takes memory: its request is looked into
abbrev pub LooksInto : Handlers → Next → JobState → Type 0
LooksInto g nexts.Begin j = waits j ≡ true
LooksInto g (nexts.Judge before) j = nat_lt before (length (kept_of g j.request)) ≡ true
LooksInto g nexts.Settle j = Unit {0}
LooksInto g (nexts.Go phase) j = ⊥

-- it takes memory, or nothing is left to do and the call does
abbrev pub JobWants : Handlers → Next → JobState → Type 0
JobWants g nexts.Begin j = LooksInto g nexts.Begin j
JobWants g (nexts.Judge before) j = LooksInto g (nexts.Judge before) j
JobWants g nexts.Settle j = LooksInto g nexts.Settle j
JobWants g (nexts.Go phase) j = CopiesBytes (want_in phase j)

-- so does the first of these jobs, of which there is one
abbrev pub FirstWants : Handlers → Next → List JobState → Type 0
FirstWants g next [] = ⊥
FirstWants g next (j ∷ todo) = JobWants g next j

-- the same by where a turn stands: an accept wants a place for a job, and a turn that is over wants nothing
abbrev pub WantsAt : Handlers → Stage → RoundState → Type 0
WantsAt g stages.Resting r = ⊥
WantsAt g stages.Accepting r = Unit {0}
WantsAt g stages.Serving r = FirstWants g r.next (drop r.place r.jobs)

-- the next call of a turn wants memory
abbrev pub WantsMemory : Handlers → RoundState → Type 0
WantsMemory g r = WantsAt g r.stage r

-- the same of a turn that some jobs stand for
pub record IsWanting (g : Handlers) (t : Turning) : Type 0 where
  pub round : RoundState
  pub is : turning_of g round ≡ t
  pub wants : WantsMemory g round
