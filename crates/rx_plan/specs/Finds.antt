-- What a line names: a node, a call, a datagram. Public clauses cite this module.
use Rattle.std.specs.Prelude.{ℕ, zero, suc, Bool, false, true, List, Option, Some, None, slice_get}
use Rattle.rx_model.specs.declared.names.CallName.{CallName}
use Rattle.rx_law.specs.Worlds.{Datagram}
use Rattle.rx_script.specs.declared.outcome.PlanWhy.{PlanWhy}
use Rattle.rx_script.specs.declared.outcome.PlanWhy.TheVariants as causes
use Rattle.rx_plan.specs.declared.call.ClientCall.{ClientCall}
use Rattle.rx_plan.specs.Parts.{Part, Refused, ends}
use Rattle.rx_plan.specs.Stages.{Stage, is_client, is_node}

-- what has a number in a list, from 1
abbrev pub numbered : {X : Type 0} → List X → ℕ → Option X
numbered xs zero = None
numbered xs (suc k) = slice_get xs k

-- something, where this holds
abbrev pub where_true : {X : Type 0} → Bool → X → Option X
where_true true x = Some x
where_true false x = None

-- a node that is there
abbrev pub node_at : ℕ → Stage → Option ℕ
node_at node s = where_true (is_node node s) node

-- a client that is there
abbrev pub client_at : ℕ → Stage → Option ℕ
client_at node s = where_true (is_client node s) node

-- a call of a client that is there
abbrev pub where_there : Stage → Option ClientCall → Option ClientCall
where_there s None = None
where_there s (Some c) = where_true (is_client c.node s) c

-- the call #K
abbrev pub call_at : ℕ → Stage → Option ClientCall
call_at k s = where_there s (numbered s.calls k)

-- ---- parts of what a line names

-- something that is there, or a refusal
abbrev pub found_or : {X : Type 0} → PlanWhy → (X → Stage → Part Stage) → Option X → Stage → Part Stage
found_or why next None s = ends (Refused why)
found_or why next (Some x) s = next x s

-- a node that is there
abbrev pub at_node : ℕ → (ℕ → Stage → Part Stage) → Stage → Part Stage
at_node node next s = found_or causes.NoNode next (node_at node s) s

-- a client that is there
abbrev pub at_client : ℕ → (ℕ → Stage → Part Stage) → Stage → Part Stage
at_client node next s = found_or causes.NoNode next (client_at node s) s

-- the call #K
abbrev pub at_call : ℕ → (ClientCall → Stage → Part Stage) → Stage → Part Stage
at_call k next s = found_or causes.NoCall next (call_at k s) s

-- the call @K
abbrev pub at_accepted : ℕ → (CallName → Stage → Part Stage) → Stage → Part Stage
at_accepted k next s = found_or causes.NoCall next (numbered s.accepted k) s

-- the datagram %K
abbrev pub at_packet : ℕ → (Datagram → Stage → Part Stage) → Stage → Part Stage
at_packet k next s = found_or causes.NoPacket next (numbered s.packets k) s
