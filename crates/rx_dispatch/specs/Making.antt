-- What the calls of a dispatcher change. Public clauses cite this module.
use Rattle.std.specs.Prelude.{◌≡◌, ◌<◌, ◌≤◌, ℕ, List, [], ◌∷◌, length, drop}
use Rattle.std.specs.Prelude.{Option, Some, None}
use Rattle.rx_model.specs.declared.event.Event.{Event}
use Rattle.rx_model.specs.declared.names.CallName.{CallName}
use Rattle.rx_rules.specs.Classes.{Class}
use Rattle.rx_server.specs.Server.{Answered, ServerState}
use Rattle.rx_jobs.specs.Handlers.{Handlers}
use Rattle.rx_dispatch.specs.Desks.{IsRemembered}
use Rattle.rx_jobs.specs.Jobs.{Ask, IsCall, JobState, want_in}
use Rattle.rx_dispatch.specs.Rounds.{RoundState, turning_of}
use Rattle.rx_jobs.specs.Dispatching.{Turning, dispatching, heard_accept, over}
use Rattle.rx_dispatch.specs.declared.job.Next.TheVariants as nexts
use Rattle.rx_jobs.specs.declared.job.Phase.{Phase}
use Rattle.rx_jobs.specs.declared.job.Want.{Want}

-- ---- the calls of a turn

-- a turn and its server stay as they were
abbrev pub Kept : Turning → Turning → ServerState → ServerState → Type 0
Kept old new before after = (new ≡ old) × (after ≡ before)

-- an event is the call that the turn asks, with the server's answer, and the turn knows what it was told
pub record MakesCall (class : List ℕ → Class) (g : Handlers) (old new : Turning) (before after : ServerState)
    (e : Event) : Type 0 where
  pub ask : Ask
  pub asked : (dispatching g).asks old ≡ Some ask
  pub is : IsCall ask e
  pub answered : Answered class before after e
  pub told : new ≡ (dispatching g).heard old e

-- the event of the next call; or none where the turn is over, with these jobs
abbrev pub NextCall : (List ℕ → Class) → Handlers → Turning → Turning → List JobState → ServerState → ServerState
    → Option Event → Type 0
NextCall class g old new jobs before after None = (old ≡ over jobs) × Kept old new before after
NextCall class g old new jobs before after (Some e) = MakesCall class g old new before after e

-- ---- what is remembered

-- the request of the first job
abbrev pub first_request : List JobState → List ℕ
first_request [] = []
first_request (j ∷ js) = j.request

-- arguments that are remembered are those of the job whose step it is, by these handlers
abbrev pub Remembers : Handlers → RoundState → Type 0
Remembers g r = IsRemembered g (first_request (drop r.place r.jobs)) r.found

-- ---- parts of a turn

-- an accept was answered so
abbrev pub HearsAccept : Handlers → RoundState → RoundState → Option CallName → Type 0
HearsAccept g old new got = turning_of g new ≡ heard_accept g old.jobs got

-- the job whose step it is has nothing to do before its next call, and wants this one
pub record Ready (r : RoundState) (want : Want) : Type 0 where
  pub within : r.place < length r.jobs
  pub job : JobState
  pub todo : List JobState
  pub phase : Phase
  pub at : drop r.place r.jobs ≡ job ∷ todo
  pub next : r.next ≡ nexts.Go phase
  pub wants : want_in phase job ≡ Some want

-- the next call of the jobs; none where each had its step
abbrev pub IsNext : RoundState → Option Want → Type 0
IsNext r None = length r.jobs ≤ r.place
IsNext r (Some want) = Ready r want

-- the job whose step it is has nothing to do before its next call, and wants none
pub record WantsNone (r : RoundState) (phase : Phase) : Type 0 where
  pub within : r.place < length r.jobs
  pub job : JobState
  pub todo : List JobState
  pub at : drop r.place r.jobs ≡ job ∷ todo
  pub next : r.next ≡ nexts.Go phase
  pub none : want_in phase job ≡ None
