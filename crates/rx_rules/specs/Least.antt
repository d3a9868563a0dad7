-- The least of a list. Public clauses cite this module.
use Rattle.std.specs.Prelude.{if◌then◌else◌, nat_le, ℕ, List, [], ◌∷◌, Option, Some, None}

-- the one of less rank, the first where they are equal
abbrev pub lesser_by : {X : Type 0} → (X → ℕ) → X → Option X → X
lesser_by rank x None = x
lesser_by rank x (Some y) = if nat_le (rank x) (rank y) then x else y

-- the first one of least rank
abbrev pub least_by : {X : Type 0} → (X → ℕ) → List X → Option X
least_by rank [] = None
least_by rank (x ∷ xs) = Some (lesser_by rank x (least_by rank xs))
