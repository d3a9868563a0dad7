-- Polls of a peer: its caller half is asked first, and its served half where that one gives none. Public clauses cite
-- this module.
use Rattle.std.specs.Prelude.{ℕ, Bool, true, false, List, [], ◌∷◌, ◌++◌, nat_le, length, Option, Some, None}
use Rattle.std.specs.Prelude.{if◌then◌else◌}
use Rattle.rx_events.specs.Events.{IsPolled}
use Rattle.rx_law.specs.Worlds.{Datagram}
use Rattle.rx_model.specs.declared.event.Event.{Event}
use Rattle.rx_model.specs.declared.event.Event.TheVariants as events
use Rattle.rx_model.specs.declared.names.Host.{Host}
use Rattle.rx_peer.specs.declared.role.Role.{Role}
use Rattle.rx_peer.specs.declared.role.Role.TheVariants as roles
use Rattle.rx_peer.specs.Roles.{node_of}
use Rattle.rx_peer_plan.specs.Programs.{TurnAcross}
use Rattle.rx_peer_plan.specs.Rounds.{Polled}
use Rattle.rx_peer_plan.specs.Stages.{PeerStage, event_with, host_at, numbers, peer_stages, with_event}
use Rattle.rx_plan.specs.declared.limits.TheConstants.{MAX_PACKETS}
use Rattle.rx_plan.specs.Finds.{where_true}
use Rattle.rx_plan.specs.Parts.{Came, One, Part, Refused, Then, To, each, ends}
use Rattle.rx_plan.specs.Stages.{packet_given}
use Rattle.rx_run.specs.Programs.{IsNext}
use Rattle.rx_script.specs.declared.outcome.PlanWhy.TheVariants as causes
use Rattle.rx_wire.specs.Turns.{Program}

-- ---- until none is due

-- what polls of a peer came to: which half is asked next, whether one is, and the datagrams that were given so far, in
-- order
pub record PeerPolling : Type 0 where
  pub half : Role
  pub again : Bool
  pub given : List Datagram

-- behind a poll of a half that gave none: that of the caller half is followed by one of the served half, and that is
-- the end of it
abbrev pub none_from : Role → PeerPolling → PeerPolling
none_from roles.Caller v = record v { half = roles.Served }
none_from roles.Served v = record v { again = false }

-- behind a poll that gave something or nothing, from this host: the peer is polled again where it gave something
abbrev pub polled : Host → Option (Host × List ℕ) → PeerPolling → PeerPolling
polled from None v = none_from v.half v
polled from (Some (to, bytes)) v =
    record v { half = roles.Caller; given = v.given ++ record { from = from; to = to; bytes = bytes } ∷ [] }

-- behind an event
abbrev pub heard_poll : Host → PeerPolling → Event → PeerPolling
heard_poll from v (events.Polled got) = polled from got v
heard_poll from v _ = record v { again = false }

-- a peer of this host is polled until neither half has something due
abbrev pub polling : Host → Program PeerPolling (Unit {0})
polling from = record { asks = λ v. where_true v.again tt; is = λ a. IsPolled; heard = heard_poll from }

-- the node that is asked next
abbrev pub asked_node : ℕ → PeerPolling → ℕ
asked_node number v = node_of v.half number

-- the polls of a peer that is there
abbrev pub polls_at : ℕ → Option Host → Polled PeerStage → Part (Polled PeerStage)
polls_at number None p = ends (To p)
polls_at number (Some from) p =
    Then
    (TurnAcross peer_stages (polling from) (asked_node number)
    (record { half = roles.Caller; again = true; given = p.given }) p.stage)
    (λ r. ends (To (record { stage = r.1; given = r.0.given })))

-- the polls of the peer with this number, if it is there
abbrev pub polls_out : ℕ → Polled PeerStage → Part (Polled PeerStage)
polls_out number p = polls_at number (host_at p.stage number) p

-- all peers are polled, in order
abbrev pub polls : PeerStage → Part (Polled PeerStage)
polls s = each polls_out (numbers s) (record { stage = s; given = [] })

-- ---- once

-- a datagram that a poll gave is kept, where there is room
abbrev pub with_packet : Option Datagram → PeerStage → Came PeerStage
with_packet None s = To s
with_packet (Some d) s =
    if nat_le MAX_PACKETS (length s.packets) then Refused causes.Bag
    else To (record s { packets = s.packets ++ d ∷ [] })

-- the served half is polled
abbrev pub polls_served : Host → ℕ → PeerStage → Part PeerStage
polls_served from number s =
    event_with (node_of roles.Served number) IsPolled (λ e t. with_packet (packet_given from e) t) s

-- behind a poll of the caller half that gave a datagram, or none
abbrev pub polls_next : Host → ℕ → Option Datagram → PeerStage → Part PeerStage
polls_next from number None s = polls_served from number s
polls_next from number (Some d) s = ends (with_packet (Some d) s)

-- a peer of this host is polled
abbrev pub polls_once : Host → ℕ → PeerStage → Part PeerStage
polls_once from number s =
    Then (One (node_of roles.Caller number) (IsNext peer_stages s (node_of roles.Caller number) IsPolled))
    (λ e. polls_next from number (packet_given from e) (with_event (node_of roles.Caller number) e s))
