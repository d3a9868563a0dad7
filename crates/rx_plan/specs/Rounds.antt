-- Fair rounds. Public clauses cite this module.
use Rattle.std.specs.Prelude.{◌==◌, ◌+◌, ◌^◌, ◌&&◌, not, nat_le, ℕ, zero, suc, Bool, false, true, List, [], ◌∷◌, ◌++◌}
use Rattle.std.specs.Prelude.{length, Option, Some, None, drop}
use Rattle.std.specs.List.{list_any}
use Rattle.rx_model.specs.declared.event.Event.{Event}
use Rattle.rx_model.specs.declared.event.Event.TheVariants as events
use Rattle.rx_model.specs.declared.names.Host.{Host}
use Rattle.rx_history.specs.Sides.{moment}
use Rattle.rx_law.specs.Worlds.{Datagram}
use Rattle.rx_jobs.specs.Handlers.{Handlers}
use Rattle.rx_events.specs.Events.{IsClocked, IsPolled}
use Rattle.rx_events.specs.Waits.{any_lives, least_wait, over_nodes}
use Rattle.rx_wire.specs.Turns.{Program}
use Rattle.rx_plan.specs.Network.{all_nodes, delivers}
use Rattle.rx_plan.specs.Finds.{where_true}
use Rattle.rx_plan.specs.Parts.{Part, Then, To, by_test, each, ends}
use Rattle.rx_plan.specs.Stages.{Stage, event, host_at}
use Rattle.rx_plan.specs.Programs.{Turn}
use Rattle.rx_plan.specs.Turned.{dispatches, turns_all}

-- ---- polls

-- what polls of a node came to: whether it is polled again, and the datagrams that were given so far, in order
pub record Polling : Type 0 where
  pub again : Bool
  pub given : List Datagram

-- behind a poll that gave something or nothing, from this host
abbrev pub polled : Host → Option (Host × List ℕ) → Polling → Polling
polled from None v = record v { again = false }
polled from (Some (to, bytes)) v =
    record v { given = v.given ++ record { from = from; to = to; bytes = bytes } ∷ [] }

-- behind an event
abbrev pub heard_poll : Host → Polling → Event → Polling
heard_poll from v (events.Polled got) = polled from got v
heard_poll from v _ = record v { again = false }

-- a node of this host is polled until none is due
abbrev pub polling : Host → Program Polling (Unit {0})
polling from = record { asks = λ v. where_true v.again tt; is = λ a. IsPolled; heard = heard_poll from }

-- what a round's polls came to, and the datagrams that they gave, in order
pub record Polled : Type 0 where
  pub stage : Stage
  pub given : List Datagram

-- the polls of a node that is there
abbrev pub polls_at : ℕ → Option Host → Polled → Part Polled
polls_at node None p = ends (To p)
polls_at node (Some from) p =
    Then (Turn (polling from) node (record { again = true; given = p.given }) p.stage)
    (λ r. ends (To (record { stage = r.1; given = r.0.given })))

-- the polls of the node of this number, if it is there
abbrev pub polls_out : ℕ → Polled → Part Polled
polls_out node p = polls_at node (host_at p.stage node) p

-- the clients in their order, and then the server
abbrev pub clients_first : Stage → List ℕ
clients_first s = drop 1 (all_nodes s) ++ 0 ∷ []

-- all nodes are polled
abbrev pub polls : Stage → Part Polled
polls s = each polls_out (clients_first s) (record { stage = s; given = [] })

-- ---- clocks

-- no clock would reach 2^62
abbrev pub may_move : ℕ → Stage → Bool
may_move time s =
    not (list_any (λ m. nat_le (2 ^ 62) (m + time)) (over_nodes (λ k n. moment k s.history) 0 s.nodes))

-- a clock moves on
abbrev pub moves_on : ℕ → ℕ → Stage → Part Stage
moves_on time node s = event node (IsClocked (moment node s.history + time)) s

-- all clocks do, where that is a time and none reaches 2^62
abbrev pub moves_by : Option ℕ → Stage → Part Stage
moves_by None s = ends (To s)
moves_by (Some time) s =
    by_test (not (time == 0) && may_move time s) (each (moves_on time) (clients_first s) s) (ends (To s))

-- all clocks move by the least time
abbrev pub waits : Stage → Part Stage
waits s = moves_by (least_wait s.nodes s.history) s

-- ---- rounds

-- the turns of a round
abbrev pub turns : Handlers → Stage → Part Stage
turns g s = Then (dispatches g s) turns_all

-- its end: where nothing came, the clocks move
abbrev pub settles : Bool → Stage → Part Stage
settles quiet s = by_test quiet (waits s) (ends (To s))

-- one round
abbrev pub round : Handlers → Stage → Part Stage
round g s =
    Then (polls s) (λ p. Then (each delivers p.given p.stage) (λ s1. Then (turns g s1)
    (settles (length p.given == 0))))

-- rounds until so many were made or no call lives
abbrev pub rounds : Handlers → ℕ → Stage → Part Stage
rounds g zero s = ends (To s)
rounds g (suc n) s = by_test (any_lives s.nodes s.history) (Then (round g s) (rounds g n)) (ends (To s))
