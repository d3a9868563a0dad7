-- Turns of a peer: its dispatcher's, and then its callers'. Public clauses cite this module.
use Rattle.std.specs.Prelude.{ℕ, ◌-◌, List, [], length, Option, Some, None, set, slice_get, unwrap_or}
use Rattle.rx_asks.specs.Asks.{begun as caller_begun, calling}
use Rattle.rx_asks.specs.declared.ask.TheConstants.{REPLY_BYTES}
use Rattle.rx_jobs.specs.Dispatching.{accepts, dispatching}
use Rattle.rx_jobs.specs.Jobs.{JobState}
use Rattle.rx_peer.specs.declared.role.Role.TheVariants as roles
use Rattle.rx_peer.specs.Roles.{node_of}
use Rattle.rx_peer_plan.specs.Stages.{PeerHandlers, PeerStage, handlers_at, numbers, peer_stages}
use Rattle.rx_plan.specs.Finds.{numbered}
use Rattle.rx_plan.specs.Network.{below}
use Rattle.rx_plan.specs.Parts.{Part, Then, To, by_test, each, ends}
use Rattle.rx_plan.specs.Stages.{InvokedState}
use Rattle.rx_plan.specs.Turned.{is_of, jobs_left}
use Rattle.rx_run.specs.Programs.{Turn}

-- ---- dispatchers

-- the jobs of a peer's dispatcher
abbrev pub jobs_at : ℕ → PeerStage → List JobState
jobs_at number s = unwrap_or (numbered s.jobs number) []

-- the stage with these
abbrev pub with_jobs : ℕ → List JobState → PeerStage → PeerStage
with_jobs number jobs s = record s { jobs = set s.jobs (number - 1) jobs }

-- a turn of a peer's dispatcher
abbrev pub dispatches : PeerHandlers → ℕ → PeerStage → Part PeerStage
dispatches g number s =
    Then
    (Turn peer_stages (dispatching (handlers_at g number)) (node_of roles.Served number) (accepts (jobs_at number s)) s)
    (λ r. ends (To (with_jobs number (jobs_left r.0) r.1)))

-- ---- callers

-- a turn of the caller at a place, on its node
abbrev pub turns_of : ℕ → InvokedState → PeerStage → Part PeerStage
turns_of place i s =
    Then (Turn peer_stages (calling REPLY_BYTES) i.node (caller_begun i.caller) s)
    (λ r. ends (To (record r.1 { callers = set s.callers place (record i { caller = r.0 }) })))

-- of a caller that is there
abbrev pub turns_where : ℕ → Option InvokedState → PeerStage → Part PeerStage
turns_where place None s = ends (To s)
turns_where place (Some i) s = turns_of place i s

-- of the caller at a place, where it is this node's
abbrev pub turns_for : ℕ → ℕ → PeerStage → Part PeerStage
turns_for node place s =
    by_test (is_of node (slice_get s.callers place)) (turns_where place (slice_get s.callers place) s) (ends (To s))

-- a turn of each caller of a peer, by call number
abbrev pub turns_on : ℕ → PeerStage → Part PeerStage
turns_on number s = each (turns_for (node_of roles.Caller number)) (below (length s.callers)) s

-- ---- peers

-- a turn of a peer
abbrev pub turn : PeerHandlers → ℕ → PeerStage → Part PeerStage
turn g number s = Then (dispatches g number s) (turns_on number)

-- of each peer, in order
abbrev pub turns : PeerHandlers → PeerStage → Part PeerStage
turns g s = each (turn g) (numbers s) s
