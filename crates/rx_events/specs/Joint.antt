-- What the rules allow of several nodes. Public clauses cite this module.
use Rattle.std.specs.Prelude.{ℕ, List, slice_get, IsSomeAnd}
use Rattle.rx_model.specs.declared.event.Event.{Event}
use Rattle.rx_model.specs.declared.event.Noted.{Noted}
use Rattle.rx_rules.specs.After.{looks}
use Rattle.rx_rules.specs.Rules.{Allowed}
use Rattle.rx_history.specs.Sides.{Node, side}

-- the rules allow an event of a node behind a joint history
abbrev pub IsAllowedAt : List Node → List Noted → ℕ → Event → Type 0
IsAllowedAt nodes h node e = IsSomeAnd (slice_get nodes node) (λ n. Allowed n.setup (looks n.setup (side node h)) e)
