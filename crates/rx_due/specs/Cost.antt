-- What a call of a book may cost. Public clauses cite this module.
use Rattle.std.specs.Prelude.{ℕ, ◌+◌, ◌*◌, ◌^◌, ◌<◌, ◌≤◌}

-- a count of steps grew, by at most so many
pub record AtMost (more old new : ℕ) : Type 0 where
  pub grows : old ≤ new
  pub most : new ≤ old + more

-- d is the greatest number with 2 ^ d ≤ 2 * n + 1
pub record IsGreatestPower (n d : ℕ) : Type 0 where
  pub reached : 2 ^ d ≤ 2 * n + 1
  pub greatest : (e : ℕ) → 2 ^ e ≤ 2 * n + 1 → e ≤ d

-- a count grew by at most 8 * d + 8, where d is the greatest number with 2 ^ d ≤ 2 * n + 1, or greater than that
abbrev pub AtMostForEntries : ℕ → ℕ → ℕ → Type 0
AtMostForEntries n old new = (d : ℕ) → 2 * n + 1 < 2 ^ (d + 1) → AtMost (8 * d + 8) old new
