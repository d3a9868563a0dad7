-- The events of a line of a plan of peers, and why it is refused. Public clauses cite this module.
use Rattle.std.specs.Prelude.{◌≢◌, ◌<◌, ◌^◌, ◌++◌, ◌∷◌, ℕ, pos, List, [], length, Option, Some, None, option_map}
use Rattle.std.specs.Prelude.{string_bytes}
use Rattle.rx_asks.specs.View.{caller_for}
use Rattle.rx_events.specs.Events.{IsAsked, IsCancelled, IsLinked}
use Rattle.rx_model.specs.declared.event.Event.{Event}
use Rattle.rx_model.specs.declared.names.CallName.{CallName}
use Rattle.rx_peer.specs.declared.role.Role.TheVariants as roles
use Rattle.rx_peer.specs.PeerWorlds.{PeerNode}
use Rattle.rx_peer.specs.Roles.{node_of}
use Rattle.rx_peer_plan.specs.Clocks.{any_lives, callers_first, clocks, halves_at, waits}
use Rattle.rx_peer_plan.specs.Finds.{at_call, at_packet, at_peer}
use Rattle.rx_peer_plan.specs.Network.{delivers}
use Rattle.rx_peer_plan.specs.Polls.{polls, polls_once}
use Rattle.rx_peer_plan.specs.Rounds.{Network, lossy, rounds}
use Rattle.rx_peer_plan.specs.Stages.{PeerHandlers, PeerStage, event, event_with, half_node, handlers_at}
use Rattle.rx_peer_plan.specs.Turned.{turn, turns}
use Rattle.rx_plan.specs.Lines.{IsInvoked, TakesArguments, bytes_of}
use Rattle.rx_plan.specs.Parts.{Part, Refused, To, ends}
use Rattle.rx_plan.specs.Stages.{name_called, service_of, with_some}
use Rattle.rx_script.specs.declared.outcome.PlanWhy.TheVariants as causes
use Rattle.rx_script.specs.declared.plan.PeerLine.{PeerLine}
use Rattle.rx_script.specs.declared.plan.PeerLine.TheVariants as lines
use Rattle.rx_script.specs.Procs.{proc_named}
use Rattle.xdr_value.specs.View.{values_of}

-- ---- lines as the reader of plans of peers gives them

-- the numbers of a line are in range, and the arguments of an invoke fit
abbrev pub IsWell : PeerHandlers → PeerLine → Type 0
IsWell g (lines.Peer host epoch service limits) = (epoch < 2 ^ 32) × (service < 2 ^ 16)
IsWell g (lines.Connect peer to) = Unit {0}
IsWell g (lines.Invoke peer cid proc up down args) =
    TakesArguments (handlers_at g peer) (proc_named (string_bytes proc) g.procs) (values_of args.items) up
IsWell g (lines.Cancel call code) = code ≢ pos 0
IsWell g (lines.Ask call) = Unit {0}
IsWell g (lines.Poll peer) = Unit {0}
IsWell g (lines.Deliver packet) = Unit {0}
IsWell g (lines.Clock which now) = now < 2 ^ 62
IsWell g (lines.Turn peer) = Unit {0}
IsWell g (lines.Rounds count) = Unit {0}
IsWell g (lines.Lossy number count) = Unit {0}

-- ---- connections and invokes

-- a peer connects to this one and its service, where the first call has the number 1
abbrev pub connects : ℕ → PeerNode → PeerStage → Part PeerStage
connects number to s =
    event (node_of roles.Caller number) (IsLinked to.host (service_of (Some (half_node roles.Served to))) 1) s

-- a name that was answered is kept
abbrev pub with_called : ℕ → Event → PeerStage → PeerStage
with_called number e s =
    record s { calls = with_some s.calls (option_map (λ c. record { peer = number; name = c }) (name_called e)) }

-- where a name was answered, a caller begins at the peer's caller half
abbrev pub with_caller : ℕ → ℕ → List ℕ → Option CallName → PeerStage → PeerStage
with_caller number line bytes None s = s
with_caller number line bytes (Some name) s =
    record s {
      callers = s.callers ++ record {
        call = length s.calls;
        node = node_of roles.Caller number;
        line = line;
        caller = caller_for name bytes;
      } ∷ [];
    }

-- a peer calls, and has a caller
abbrev pub invokes : ℕ → ℕ → List ℕ → ℕ → PeerStage → Part PeerStage
invokes line cid bytes number s =
    event_with (node_of roles.Caller number) (IsInvoked cid bytes)
    (λ e t. To (with_caller number line bytes (name_called e) (with_called number e t))) s

-- ---- rounds

-- peers on a network
abbrev pub network : PeerHandlers → Network PeerStage
network g = record {
  polls = polls;
  delivers = delivers;
  turns = turns g;
  waits = waits;
  any_lives = any_lives;
}

-- ---- lines

-- the events of a line at a place of its plan that makes no peer
abbrev pub line_part : PeerHandlers → ℕ → PeerLine → PeerStage → Part PeerStage
line_part g place (lines.Peer host epoch service limits) s = ends (Refused causes.Late)
line_part g place (lines.Connect peer to) s = at_peer peer (λ p. at_peer to (connects peer)) s
line_part g place (lines.Invoke peer cid proc up down args) s =
    at_peer peer
    (λ p. invokes place cid (bytes_of (handlers_at g peer) (proc_named (string_bytes proc) g.procs)
    (values_of args.items) up) peer) s
line_part g place (lines.Cancel call code) s =
    at_call call (λ c. event (node_of roles.Caller c.peer) (IsCancelled c.name code)) s
line_part g place (lines.Ask call) s = at_call call (λ c. event (node_of roles.Caller c.peer) (IsAsked c.name)) s
line_part g place (lines.Poll peer) s = at_peer peer (λ p. polls_once p.host peer) s
line_part g place (lines.Deliver packet) s = at_packet packet delivers s
line_part g place (lines.Clock None now) s = clocks now (callers_first s) s
line_part g place (lines.Clock (Some peer) now) s = at_peer peer (λ p. clocks now (halves_at peer)) s
line_part g place (lines.Turn peer) s = at_peer peer (λ p. turn g peer) s
line_part g place (lines.Rounds count) s = rounds (network g) count s
line_part g place (lines.Lossy number count) s = lossy (network g) number count s
