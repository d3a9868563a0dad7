-- The events of a line of a plan, and why it is refused. Public clauses cite this module.
use Rattle.std.specs.Prelude.{◌≡◌, ◌≢◌, ◌==◌, ◌<◌, ◌-◌, ◌^◌, ◌&&◌, not, if◌then◌else◌, nat_le, nat_lt, ℕ, suc, Bool}
use Rattle.std.specs.Prelude.{true, pos, List, [], ◌∷◌, ◌++◌, length, take, drop, Option, Some, None, option_map, ◌≤◌}
use Rattle.std.specs.Prelude.{slice_get, string_bytes}
use Rattle.hex.specs.Hex.{IsBytes}
use Rattle.rx_model.specs.declared.event.Event.{Event}
use Rattle.rx_model.specs.declared.event.Event.TheVariants as events
use Rattle.rx_model.specs.declared.names.CallName.{CallName}
use Rattle.rx_model.specs.declared.names.Host.{Host}
use Rattle.rx_model.specs.declared.wire.TheConstants.{DATAGRAM_BYTES}
use Rattle.rx_history.specs.Sides.{moment}
use Rattle.rx_law.specs.Worlds.{Datagram}
use Rattle.rx_jumbo.specs.JoinerState.{JoinerState, takes}
use Rattle.rx_jumbo.specs.Parts.{is_jumbo, parts_of}
use Rattle.rx_jumbo.specs.declared.sizes.TheConstants.{JUMBO_PARTS}
use Rattle.xdr_value.specs.Data.{Data, Procedure}
use Rattle.xdr_value.specs.View.{values_of}
use Rattle.rx_asks.specs.View.{caller_for}
use Rattle.rx_jobs.specs.Handlers.{Handlers}
use Rattle.rx_reply.specs.Sent.{CanSend, sent_spelling}
use Rattle.rx_script.specs.Procs.{proc_named}
use Rattle.rx_script.specs.declared.outcome.PlanWhy.TheVariants as causes
use Rattle.rx_script.specs.declared.plan.PlanLine.{PlanLine}
use Rattle.rx_script.specs.declared.plan.PlanLine.TheVariants as lines
use Rattle.rx_events.specs.Events.{IsAccepted, IsAsked, IsCalled, IsCancelled, IsClocked, IsFinished, IsLinked}
use Rattle.rx_events.specs.Events.{IsPolled, IsReadBack, IsReadIn, IsReplied, IsSaid, IsShut, IsTaken}
use Rattle.rx_events.specs.Waits.{is_later, over_nodes}
use Rattle.rx_plan.specs.declared.limits.TheConstants.{MAX_PACKETS}
use Rattle.rx_plan.specs.Finds.{at_accepted, at_call, at_client, at_node, at_packet}
use Rattle.rx_plan.specs.Lossy.{lossy}
use Rattle.rx_plan.specs.Network.{delivers}
use Rattle.rx_plan.specs.Parts.{Came, To, Refused, Part, by_test, each, ends}
use Rattle.rx_plan.specs.Rounds.{clients_first, rounds}
use Rattle.rx_plan.specs.Stages.{Stage, event, event_with, host_at, name_accepted, name_called, packet_given}
use Rattle.rx_plan.specs.Stages.{service_of, with_some}
use Rattle.rx_plan.specs.Turned.{dispatches, turns_on}

-- ---- lines as the reader of plans gives them

-- a procedure that is there takes these values and this upload
abbrev pub TakesArguments : Handlers → Option Procedure → Data → Option (List ℕ) → Type 0
TakesArguments g None args up = ⊥
TakesArguments g (Some p) args up = CanSend g.types p args up

-- the numbers of a line are in range, and the arguments of an invoke fit
abbrev pub IsWell : Handlers → PlanLine → Type 0
IsWell g (lines.Connect client first) = 1 ≤ first
IsWell g (lines.Read call max) = 1 ≤ max
IsWell g (lines.HandlerRead call max) = 1 ≤ max
IsWell g (lines.Cancel call code) = code ≢ pos 0
IsWell g (lines.Clock which now) = now < 2 ^ 62
IsWell g (lines.Invoke client cid proc up down args) =
    TakesArguments g (proc_named (string_bytes proc) g.procs) (values_of args.items) up
IsWell g (lines.Server host service limits key nonce) = (service < 2 ^ 16) × (nonce < 2 ^ 64)
IsWell g (lines.Client host epoch limits key) = epoch < 2 ^ 32
IsWell g (lines.Call client cid) = Unit {0}
IsWell g (lines.Write call bytes) = Unit {0}
IsWell g (lines.Shut call) = Unit {0}
IsWell g (lines.Ask call) = Unit {0}
IsWell g lines.Accept = Unit {0}
IsWell g (lines.HandlerWrite call bytes) = Unit {0}
IsWell g (lines.Finish call code) = Unit {0}
IsWell g (lines.Poll node) = Unit {0}
IsWell g (lines.Deliver packet) = Unit {0}
IsWell g (lines.Jumbo first last) = Unit {0}
IsWell g (lines.Forge node host bytes) = Unit {0}
IsWell g (lines.Turn node) = Unit {0}
IsWell g (lines.Rounds n) = Unit {0}
IsWell g (lines.Lossy number n) = Unit {0}

-- ---- connections and calls

-- the client connects to the server
abbrev pub connects : ℕ → ℕ → Stage → Part Stage
connects first node s =
    event node (λ e. (to : Host) × (host_at s 0 ≡ Some to) × IsLinked to (service_of (slice_get s.nodes 0)) first e) s

-- a name that was answered is kept
abbrev pub with_called : ℕ → Event → Stage → Stage
with_called node e s =
    record s { calls = with_some s.calls (option_map (λ c. record { node = node; name = c }) (name_called e)) }

-- the client calls
abbrev pub calls : ℕ → ℕ → Stage → Part Stage
calls cid node s = event_with node (IsCalled cid) (λ e t. To (with_called node e t)) s

-- ---- the calls of a handler

-- the name that an accept answered is kept
abbrev pub with_accepted : Event → Stage → Stage
with_accepted e s = record s { accepted = with_some s.accepted (name_accepted e) }

-- a handler takes the next call
abbrev pub accepts_line : Stage → Part Stage
accepts_line s = event_with 0 IsAccepted (λ e t. To (with_accepted e t)) s

-- ---- invokes

-- the bytes of a request, and behind it the counted stream that goes up
abbrev pub bytes_of : Handlers → Option Procedure → Data → Option (List ℕ) → List ℕ
bytes_of g None args up = []
bytes_of g (Some p) args up = sent_spelling g.types p args up

-- where a name was answered, a caller begins
abbrev pub with_caller : ℕ → ℕ → List ℕ → Option CallName → Stage → Stage
with_caller node line bytes None s = s
with_caller node line bytes (Some name) s =
    record s {
      callers = s.callers ++ record {
        call = length s.calls;
        node = node;
        line = line;
        caller = caller_for name bytes;
      } ∷ [];
    }

-- a call on the connection with this cid, for which there are bytes to say
abbrev pub IsInvoked : ℕ → List ℕ → Event → Type 0
IsInvoked cid bytes e = IsCalled cid e × IsBytes bytes

-- the client calls, and has a caller
abbrev pub invokes : ℕ → ℕ → List ℕ → ℕ → Stage → Part Stage
invokes line cid bytes node s =
    event_with node (IsInvoked cid bytes)
    (λ e t. To (with_caller node line bytes (name_called e) (with_called node e t))) s

-- ---- the network

-- a datagram that a poll gave is kept, where there is room
abbrev pub with_packet : Option Datagram → Stage → Came Stage
with_packet None s = To s
with_packet (Some d) s =
    if nat_le MAX_PACKETS (length s.packets) then Refused causes.Bag
    else To (record s { packets = s.packets ++ d ∷ [] })

-- what a poll gave, with the host that it is for
abbrev pub given_by : Event → Option (Host × List ℕ)
given_by (events.Polled got) = got
given_by _ = None

-- the datagram that a poll gave, where the host of its giver is known
abbrev pub given_packet : Option Host → Event → Option Datagram
given_packet None e = None
given_packet (Some from) e = packet_given from e

-- a node is polled
abbrev pub polls_line : ℕ → Stage → Part Stage
polls_line node s = event_with node IsPolled (λ e t. with_packet (given_packet (host_at s node) e) t) s

-- the datagrams from one place to another
abbrev pub packets_in : ℕ → ℕ → Stage → List Datagram
packets_in first last s = take (suc last - first) (drop (first - 1) s.packets)

-- a joiner takes a datagram
abbrev pub joins : JoinerState → Datagram → Bool
joins j d = not (is_jumbo d.bytes) && (nat_le (length d.bytes) DATAGRAM_BYTES && takes j d.to d.bytes)

-- the joiner behind it
abbrev pub joined : JoinerState → Datagram → JoinerState
joined j d = record j { host = d.to; datagrams = j.datagrams ++ d.bytes ∷ [] }

-- a joiner takes the datagrams one by one
abbrev pub joins_all : JoinerState → List Datagram → Bool
joins_all j [] = true
joins_all j (d ∷ ds) = joins j d && joins_all (joined j d) ds

-- whether they can be joined
abbrev pub can_join : List Datagram → Bool
can_join ds = joins_all (record { most = JUMBO_PARTS; host = record { addr = 0; port = 0 }; datagrams = [] }) ds

-- they are delivered as the parts of one, where they can be joined
abbrev pub joins_to : ℕ → ℕ → Stage → Part Stage
joins_to first last s =
    by_test (nat_le first last && can_join (packets_in first last s)) (each delivers (packets_in first last s) s)
    (ends (Refused causes.Jumbo))

-- the same of datagrams that are there
abbrev pub jumbo_line : ℕ → ℕ → Stage → Part Stage
jumbo_line first last s = at_packet first (λ a. at_packet last (λ b. joins_to first last)) s

-- a node takes each part of invented bytes
abbrev pub forges : Host → List ℕ → ℕ → Stage → Part Stage
forges from bytes node s = each (λ b. event node (IsTaken from b)) (parts_of bytes) s

-- ---- clocks

-- the clock of a node is set
abbrev pub clocks : ℕ → ℕ → Stage → Part Stage
clocks now node s =
    by_test (nat_lt now (moment node s.history)) (ends (Refused causes.ClockBack)) (event node (IsClocked now) s)

-- one of the moments is later
abbrev pub is_back : ℕ → Stage → Bool
is_back now s = is_later now (over_nodes (λ k n. moment k s.history) 0 s.nodes)

-- the clocks of all nodes are, those of the clients first
abbrev pub sets_clocks : ℕ → Stage → Part Stage
sets_clocks now s = each (λ node. event node (IsClocked now)) (clients_first s) s

-- all clocks are
abbrev pub clocks_all : ℕ → Stage → Part Stage
clocks_all now s = by_test (is_back now s) (ends (Refused causes.ClockBack)) (sets_clocks now s)

-- ---- lines

-- a turn of the dispatcher, or of a client's callers
abbrev pub turn_line : Handlers → ℕ → Stage → Part Stage
turn_line g node s = by_test (node == 0) (dispatches g s) (turns_on node s)

-- the events of a line at a place of its plan that makes no node
abbrev pub line_part : Handlers → ℕ → PlanLine → Stage → Part Stage
line_part g place (lines.Server host service limits key nonce) s = ends (Refused causes.Late)
line_part g place (lines.Client host epoch limits key) s = ends (Refused causes.Late)
line_part g place (lines.Connect client first) s = at_client client (connects first) s
line_part g place (lines.Call client cid) s = at_client client (calls cid) s
line_part g place (lines.Write call bytes) s = at_call call (λ c. event c.node (IsSaid c.name bytes)) s
line_part g place (lines.Shut call) s = at_call call (λ c. event c.node (IsShut c.name)) s
line_part g place (lines.Read call max) s = at_call call (λ c. event c.node (IsReadBack c.name max)) s
line_part g place (lines.Ask call) s = at_call call (λ c. event c.node (IsAsked c.name)) s
line_part g place (lines.Cancel call code) s = at_call call (λ c. event c.node (IsCancelled c.name code)) s
line_part g place lines.Accept s = accepts_line s
line_part g place (lines.HandlerRead call max) s = at_accepted call (λ c. event 0 (IsReadIn c max)) s
line_part g place (lines.HandlerWrite call bytes) s = at_accepted call (λ c. event 0 (IsReplied c bytes)) s
line_part g place (lines.Finish call code) s = at_accepted call (λ c. event 0 (IsFinished c code)) s
line_part g place (lines.Poll node) s = at_node node polls_line s
line_part g place (lines.Deliver packet) s = at_packet packet delivers s
line_part g place (lines.Jumbo first last) s = jumbo_line first last s
line_part g place (lines.Forge node host bytes) s = at_node node (forges host bytes) s
line_part g place (lines.Clock None now) s = clocks_all now s
line_part g place (lines.Clock (Some node) now) s = at_node node (clocks now) s
line_part g place (lines.Invoke client cid proc up down args) s =
    at_client client
    (invokes place cid (bytes_of g (proc_named (string_bytes proc) g.procs) (values_of args.items) up)) s
line_part g place (lines.Turn node) s = at_node node (turn_line g) s
line_part g place (lines.Rounds n) s = rounds g n s
line_part g place (lines.Lossy number n) s = lossy g number n s
