-- Turns of the dispatcher and of callers, as events of a run. Public clauses cite this module.
use Rattle.std.specs.Prelude.{◌==◌, ℕ, Bool, false, List, length, Option, Some, None, set, slice_get}
use Rattle.rx_asks.specs.Asks.{begun as caller_begun, calling}
use Rattle.rx_asks.specs.declared.ask.TheConstants.{REPLY_BYTES}
use Rattle.rx_jobs.specs.Dispatching.{Turning, accepts, dispatching, over, serves}
use Rattle.rx_jobs.specs.Handlers.{Handlers}
use Rattle.rx_jobs.specs.Jobs.{JobState}
use Rattle.rx_plan.specs.Network.{below}
use Rattle.rx_plan.specs.Parts.{Part, Then, To, by_test, each, ends}
use Rattle.rx_plan.specs.Programs.{Turn}
use Rattle.rx_plan.specs.Stages.{InvokedState, Stage, is_client}

-- ---- the dispatcher

-- the jobs that a whole turn left
abbrev pub jobs_left : Turning → List JobState
jobs_left (accepts jobs) = jobs
jobs_left (serves done m todo) = done
jobs_left (over jobs) = jobs

-- a turn of the dispatcher
abbrev pub dispatches : Handlers → Stage → Part Stage
dispatches g s =
    Then (Turn (dispatching g) 0 (accepts s.jobs) s) (λ r. ends (To (record r.1 { jobs = jobs_left r.0 })))

-- ---- callers

-- a turn of the caller at a place, on its client
abbrev pub turns_of : ℕ → InvokedState → Stage → Part Stage
turns_of place i s =
    Then (Turn (calling REPLY_BYTES) i.node (caller_begun i.caller) s)
    (λ r. ends (To (record r.1 { callers = set s.callers place (record i { caller = r.0 }) })))

-- the same where the client is there
abbrev pub turns_where : ℕ → Option InvokedState → Stage → Part Stage
turns_where place None s = ends (To s)
turns_where place (Some i) s = by_test (is_client i.node s) (turns_of place i s) (ends (To s))

-- of the caller at a place
abbrev pub turns_at : ℕ → Stage → Part Stage
turns_at place s = turns_where place (slice_get s.callers place) s

-- whether a caller is this client's
abbrev pub is_of : ℕ → Option InvokedState → Bool
is_of node None = false
is_of node (Some i) = i.node == node

-- of the caller at a place, where it is this client's
abbrev pub turns_for : ℕ → ℕ → Stage → Part Stage
turns_for node place s = by_test (is_of node (slice_get s.callers place)) (turns_at place s) (ends (To s))

-- a turn of each caller of a client, by call number
abbrev pub turns_on : ℕ → Stage → Part Stage
turns_on node s = each (turns_for node) (below (length s.callers)) s

-- a turn of each caller
abbrev pub turns_all : Stage → Part Stage
turns_all s = each turns_at (below (length s.callers)) s
