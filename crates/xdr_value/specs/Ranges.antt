-- Ranges of numbers, and the numbers of an enum. Public clauses cite this module.
use Rattle.std.specs.Prelude.{ℕ, ℤ, ◌<◌, Bool, false, ◌||◌, nat_lt, List, [], ◌∷◌}
use Rattle.std.specs.Ordering.{int_eq}
use lib.IntN.{pos, negsuc}

-- from 0 to n - 1
abbrev pub IsBelow : ℕ → ℤ → Type 0
IsBelow n (pos m) = m < n
IsBelow n (negsuc m) = ⊥

-- from -n to n - 1, as two's complement has them
abbrev pub IsWithin : ℕ → ℤ → Type 0
IsWithin n (pos m) = m < n
IsWithin n (negsuc m) = m < n

-- from 0 to n - 1, as a test
abbrev pub is_below : ℕ → ℤ → Bool
is_below n (pos m) = nat_lt m n
is_below n (negsuc m) = false

-- from -n to n - 1, as a test
abbrev pub is_within : ℕ → ℤ → Bool
is_within n (pos m) = nat_lt m n
is_within n (negsuc m) = nat_lt m n

-- some member has the number
abbrev pub has_number : List (List ℕ × ℤ) → ℤ → Bool
has_number [] z = false
has_number (m ∷ ms) z = int_eq m.1 z || has_number ms z
