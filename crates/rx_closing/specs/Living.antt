-- The calls that live at a stage. Public clauses cite this module.
use Rattle.std.specs.Prelude.{◌++◌, not, ℕ, zero, suc, Bool, false, List, [], ◌∷◌, map, filter, slice_get, unwrap_or}
use Rattle.std.specs.Prelude.{option_map}
use Rattle.rx_model.specs.declared.names.CallName.{CallName}
use Rattle.rx_rules.specs.After.{looks}
use Rattle.rx_rules.specs.Life.{is_live}
use Rattle.rx_rules.specs.Looks.{Looks, call_at, is_call}
use Rattle.rx_history.specs.Sides.{Node, side}
use Rattle.rx_events.specs.Waits.{over_nodes}
use Rattle.rx_plan.specs.Stages.{Stage}

-- what a node's side says
abbrev pub looks_of : Stage → ℕ → Node → Looks
looks_of s k n = looks n.setup (side k s.history)

-- a call lives at a node
abbrev pub call_lives_at : Stage → CallName → ℕ → Node → Bool
call_lives_at s c k n = is_call (λ r. is_live r.life) (call_at (looks_of s k n) c)

-- the names of those that do
abbrev pub live_names : Stage → ℕ → Node → List CallName
live_names s k n = map (λ r. r.name) (filter (λ r. is_live r.life) (looks_of s k n).calls)

-- it lives at the server
abbrev pub is_served : Stage → CallName → Bool
is_served s c = unwrap_or (option_map (call_lives_at s c 0) (slice_get s.nodes 0)) false

-- those that live at the server; those of a client that don't live there too
abbrev pub new_names : Stage → ℕ → Node → List CallName
new_names s zero n = live_names s 0 n
new_names s (suc k) n = filter (λ c. not (is_served s c)) (live_names s (suc k) n)

-- all of these lists
abbrev pub joined_names : List (List CallName) → List CallName
joined_names [] = []
joined_names (cs ∷ more) = cs ++ joined_names more

-- the calls that live at any node: one that lives at both ends counts once
abbrev pub all_live : Stage → List CallName
all_live s = joined_names (over_nodes (new_names s) 0 s.nodes)
