-- What a network carries: a datagram that is delivered comes to each node with its host. Public clauses cite this
-- module.
use Rattle.std.specs.Prelude.{ℕ, zero, suc, Bool, false, List, [], ◌∷◌, ◌++◌, length, option_map, unwrap_or}
use Rattle.rx_model.specs.Names.{same_host}
use Rattle.rx_law.specs.Worlds.{Datagram}
use Rattle.rx_events.specs.Events.{IsTaken}
use Rattle.rx_plan.specs.Parts.{Part, To, by_test, each, ends}
use Rattle.rx_plan.specs.Stages.{Stage, event, host_at}

-- the first numbers
abbrev pub below : ℕ → List ℕ
below zero = []
below (suc n) = below n ++ n ∷ []

-- the numbers of all nodes, the server first
abbrev pub all_nodes : Stage → List ℕ
all_nodes s = below (length s.nodes)

-- the datagram is for a node
abbrev pub is_for : Datagram → Stage → ℕ → Bool
is_for d s node = unwrap_or (option_map (same_host d.to) (host_at s node)) false

-- a node takes it, where it is for that node
abbrev pub comes_to : Datagram → ℕ → Stage → Part Stage
comes_to d node s = by_test (is_for d s node) (event node (IsTaken d.from d.bytes) s) (ends (To s))

-- each node that it is for takes it
abbrev pub delivers : Datagram → Stage → Part Stage
delivers d s = each (comes_to d) (all_nodes s) s
