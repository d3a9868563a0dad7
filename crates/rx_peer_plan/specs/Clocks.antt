-- The clocks of peers, each of whose halves has one. Public clauses cite this module.
use Rattle.std.specs.Prelude.{◌==◌, ◌+◌, ◌^◌, ◌&&◌, not, nat_le, ℕ, Bool, List, [], ◌∷◌, ◌++◌, map, Option, Some, None}
use Rattle.std.specs.List.{list_any}
use Rattle.rx_events.specs.Events.{IsClocked}
use Rattle.rx_events.specs.Waits.{is_later, least_of, lives_at, wait_at}
use Rattle.rx_history.specs.Sides.{moment}
use Rattle.rx_peer.specs.declared.role.Role.TheVariants as roles
use Rattle.rx_peer.specs.Roles.{node_of}
use Rattle.rx_peer_plan.specs.Stages.{PeerStage, event, numbers, over_halves}
use Rattle.rx_plan.specs.Parts.{Part, Refused, To, by_test, each, ends}
use Rattle.rx_script.specs.declared.outcome.PlanWhy.TheVariants as causes

-- the nodes of all halves: the caller halves in the order of their peers, and then the served ones
abbrev pub callers_first : PeerStage → List ℕ
callers_first s = map (node_of roles.Caller) (numbers s) ++ map (node_of roles.Served) (numbers s)

-- the nodes of the halves of a peer
abbrev pub halves_at : ℕ → List ℕ
halves_at number = node_of roles.Caller number ∷ node_of roles.Served number ∷ []

-- ---- lines

-- the clocks of these nodes are set
abbrev pub sets_clocks : ℕ → List ℕ → PeerStage → Part PeerStage
sets_clocks now nodes s = each (λ node. event node (IsClocked now)) nodes s

-- the same, unless one of their moments is later
abbrev pub clocks : ℕ → List ℕ → PeerStage → Part PeerStage
clocks now nodes s =
    by_test (is_later now (map (λ node. moment node s.history) nodes)) (ends (Refused causes.ClockBack))
    (sets_clocks now nodes s)

-- ---- rounds

-- whether a call lives at any half
abbrev pub any_lives : PeerStage → Bool
any_lives s = list_any (λ lives. lives) (over_halves (lives_at s.history) 1 s.peers)

-- the least of the times from a half's moment to what is due there next
abbrev pub least_wait : PeerStage → Option ℕ
least_wait s = least_of (over_halves (wait_at s.history) 1 s.peers)

-- no clock would reach 2^62
abbrev pub may_move : ℕ → PeerStage → Bool
may_move time s =
    not (list_any (λ m. nat_le (2 ^ 62) (m + time)) (over_halves (λ node n. moment node s.history) 1 s.peers))

-- a clock moves on
abbrev pub moves_on : ℕ → ℕ → PeerStage → Part PeerStage
moves_on time node s = event node (IsClocked (moment node s.history + time)) s

-- all clocks do, where that is a time and none reaches 2^62
abbrev pub moves_by : Option ℕ → PeerStage → Part PeerStage
moves_by None s = ends (To s)
moves_by (Some time) s =
    by_test (not (time == 0) && may_move time s) (each (moves_on time) (callers_first s) s) (ends (To s))

-- all clocks move by the least time
abbrev pub waits : PeerStage → Part PeerStage
waits s = moves_by (least_wait s) s
