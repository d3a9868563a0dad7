-- Places of a list, and the first of which something holds. Public clauses cite this module.
use Rattle.std.specs.Prelude.{ℕ, suc, ◌<◌, List, [], ◌∷◌, Option, Some, None, if◌then◌else◌}
use Rattle.std.specs.Option.{option_map}
use Rattle.std.specs.Str.{bytes_eq}

-- where the name stands first
abbrev pub place_of : List ℕ → List (List ℕ) → Option ℕ
place_of name [] = None
place_of name (n ∷ ns) = if bytes_eq name n then Some 0 else option_map suc (place_of name ns)

-- it holds of the place, and of none before
abbrev pub IsFirst : (ℕ → Type 0) → ℕ → Type 0
IsFirst P k = P k × ((j : ℕ) → j < k → P j → ⊥)

-- it holds of no place
abbrev pub HoldsNowhere : (ℕ → Type 0) → Type 0
HoldsNowhere P = (k : ℕ) → P k → ⊥
