-- What a dispatcher has to do with the history of its server, the newest event first. Public clauses cite this module.
use Rattle.std.specs.Prelude.{◌≡◌, Bool, true, false, List, [], ◌∷◌, ◌++◌, map, if◌then◌else◌, Some}
use Rattle.rx_model.specs.declared.event.Event.{Event}
use Rattle.rx_model.specs.declared.event.Event.TheVariants as events
use Rattle.rx_model.specs.declared.names.CallName.{CallName}
use Rattle.rx_model.specs.Names.{same_name}
use Rattle.rx_rules.proofs.EveryLaws.{Every}
use Rattle.rx_jobs.specs.Handlers.{Handlers}
use Rattle.rx_jobs.specs.Jobs.{Ask, JobState, moving}
use Rattle.rx_jobs.specs.Dispatching.{Turning, accepts, serves, over, dispatching}
use Rattle.rx_jobs.specs.Keeping.{kept_of}
use Rattle.rx_jobs.specs.Lives.{HasCount, IsExact, bytes_read}

-- ---- the events of a call

-- an event gives the call to a handler
abbrev pub gives : CallName → Event → Bool
gives c (events.Accepted (Some d)) = same_name c d
gives c _ = false

-- an event reads, writes or finishes the call
abbrev pub handles : CallName → Event → Bool
handles c (events.HasRead d max got came) = same_name c d
handles c (events.Wrote d offered got came) = same_name c d
handles c (events.Finished d code got) = same_name c d
handles c _ = false

-- the reads, writes and finishes of a call since it was accepted
abbrev pub life_of : CallName → List Event → List Event
life_of c [] = []
life_of c (e ∷ h) = if gives c e then [] else if handles c e then e ∷ life_of c h else life_of c h

-- ---- a dispatcher and its server

-- the calls of jobs
abbrev pub calls_of : List JobState → List CallName
calls_of jobs = map (λ j. j.call) jobs

-- the calls of a turn's jobs
abbrev pub turn_calls : Turning → List CallName
turn_calls (accepts jobs) = calls_of jobs
turn_calls (serves done m todo) = calls_of done ++ m.job.call ∷ calls_of todo
turn_calls (over jobs) = calls_of jobs

-- an event that accepts
abbrev pub is_accept : Event → Bool
is_accept (events.Accepted got) = true
is_accept _ = false

-- a history of a server, from a new dispatcher on: turns begin, each behind the one before; it makes the calls that it
-- asks, and no call is given to it that it has; and nobody else accepts calls, or reads, writes or finishes one of its
pub data Drives (g : Handlers) : Turning → List Event → Type 0 where
  starts : (h : List Event) → Drives g (over []) h
  begins : (jobs : List JobState) (h : List Event) → Drives g (over jobs) h → Drives g (accepts jobs) h
  makes : (t : Turning) (a : Ask) (e : Event) (h : List Event)
      → (dispatching g).asks t ≡ Some a → (dispatching g).is a e → HasCount e
      → Every (λ c. gives c e ≡ false) (turn_calls t) → Drives g t h
      → Drives g ((dispatching g).heard t e) (e ∷ h)
  leaves : (t : Turning) (e : Event) (h : List Event)
      → is_accept e ≡ false → Every (λ c. handles c e ≡ false) (turn_calls t) → Drives g t h → Drives g t (e ∷ h)

-- ---- the law

-- a job that waits for its next step is exact of the events of its call
abbrev pub WaitsExact : Handlers → List Event → JobState → Type 0
WaitsExact g h j = IsExact g j.call (life_of j.call h) (moving g j)

-- each job of a turn is exact of the events of its call, at its place in its step
abbrev pub IsExactTurn : Handlers → List Event → Turning → Type 0
IsExactTurn g h (accepts jobs) = Every (WaitsExact g h) jobs
IsExactTurn g h (serves done m todo) =
    Every (WaitsExact g h) done × IsExact g m.job.call (life_of m.job.call h) m × Every (WaitsExact g h) todo
IsExactTurn g h (over jobs) = Every (WaitsExact g h) jobs

-- ---- what is kept of requests

-- a job has of its request what is kept of the bytes read for its call
abbrev pub HasKept : Handlers → List Event → JobState → Type 0
HasKept g h j = j.request ≡ kept_of g (bytes_read (life_of j.call h))

-- each job of a turn does
abbrev pub HaveKept : Handlers → List Event → Turning → Type 0
HaveKept g h (accepts jobs) = Every (HasKept g h) jobs
HaveKept g h (serves done m todo) =
    Every (HasKept g h) done × HasKept g h m.job × Every (HasKept g h) todo
HaveKept g h (over jobs) = Every (HasKept g h) jobs
