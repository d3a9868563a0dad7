-- Turns that were made on the nodes of a run, and told. Public clauses cite this module.
use Rattle.std.specs.Prelude.{◌≡◌, ℕ, Option}
use Rattle.rx_joint.specs.Nodes.{NodesState}
use Rattle.rx_wire.specs.Turns.{Program}
use Rattle.rx_plan.specs.Stages.{Stage}
use Rattle.rx_plan.specs.Programs.{Turn}
use Rattle.rx_stage.specs.declared.stop.Stop.{Stop}
use Rattle.rx_stage.specs.Ran.{Ran}
use Rattle.rx_stage.specs.Shown.{Shows, WorldState}
use Rattle.rx_stage.specs.Tells.{Told}

-- what a turn came to, where these nodes are left
abbrev pub Knows : {View : Type 0} → View → WorldState → View → Stage → Type 0
Knows v m w t = (w ≡ v) × Shows m t

-- a turn was made, for whatever else is kept
abbrev pub PlaysTurn : {View Ask : Type 0} → Program View Ask → ℕ → View → View → NodesState → NodesState
    → Option Stop → Told → Told → Type 0
PlaysTurn p node v w old new stop before after =
    (m : WorldState) → m.nodes ≡ old → (s : Stage) → Shows m s
    → Ran (Turn p node v s) (λ r. Knows w (record m { nodes = new }) r.0 r.1) stop before after
