-- A dispatcher, and its turn as a program that makes calls of a server. Public clauses cite this module.
use Rattle.std.specs.Prelude.{Bool, List, [], ◌∷◌, ◌++◌, if◌then◌else◌, Option, Some, None}
use Rattle.rx_model.specs.declared.event.Event.{Event}
use Rattle.rx_model.specs.declared.event.Event.TheVariants as events
use Rattle.rx_model.specs.declared.names.CallName.{CallName}
use Rattle.rx_wire.specs.Turns.{Program}
use Rattle.rx_jobs.specs.Handlers.{Handlers}
use Rattle.rx_jobs.specs.Jobs.{JobState, begun, Moving, moving, Ask, accept, IsCall, serving, is_staying}

-- a turn: it accepts, and has these jobs; or it gives each job one step, and these had theirs, this one has its step,
-- and those are to come; or each had its step, and these stayed
pub data Turning : Type 0 where
  accepts : List JobState → Turning
  serves : List JobState → Moving → List JobState → Turning
  over : List JobState → Turning

-- a job, where it stays
abbrev pub kept : Bool → JobState → List JobState
kept stays j = if stays then j ∷ [] else []

-- the job whose step is over, where it stays
abbrev pub left : Moving → List JobState
left m = kept (is_staying m.phase) m.job

-- one of two turns: where a call is asked for, and where none is
abbrev pub by_ask : Option Ask → Turning → Turning → Turning
by_ask (Some a) asking resting = asking
by_ask None asking resting = resting

-- these had their steps, this one goes on with its, and those are to come: where its step is over the next one begins
abbrev pub settle : Handlers → List JobState → Moving → List JobState → Turning
settle g done m [] = by_ask ((serving g).asks m) (serves done m []) (over (done ++ left m))
settle g done m (j ∷ js) =
    by_ask ((serving g).asks m) (serves done m (j ∷ js)) (settle g (done ++ left m) (moving g j) js)

-- these had their steps, and those are to come
abbrev pub proceed : Handlers → List JobState → List JobState → Turning
proceed g done [] = over done
proceed g done (j ∷ js) = settle g done (moving g j) js

-- an accept answered so
abbrev pub heard_accept : Handlers → List JobState → Option CallName → Turning
heard_accept g jobs None = proceed g [] jobs
heard_accept g jobs (Some c) = accepts (jobs ++ begun c ∷ [])

-- while it accepts
abbrev pub accepting : Handlers → List JobState → Event → Turning
accepting g jobs (events.Accepted got) = heard_accept g jobs got
accepting g jobs _ = accepts jobs

-- what it asks next
abbrev pub asks_next : Handlers → Turning → Option Ask
asks_next g (accepts jobs) = Some accept
asks_next g (serves done m todo) = (serving g).asks m
asks_next g (over jobs) = None

-- its call was answered so
abbrev pub hears : Handlers → Turning → Event → Turning
hears g (accepts jobs) e = accepting g jobs e
hears g (serves done m todo) e = settle g done ((serving g).heard m e) todo
hears g (over jobs) e = over jobs

-- its turn as a program: it accepts until no call waits, and then gives each job one step
abbrev pub dispatching : Handlers → Program Turning Ask
dispatching g = record { asks = asks_next g; is = IsCall; heard = hears g }
