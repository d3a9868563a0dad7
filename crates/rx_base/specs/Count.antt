-- A count that stands still at its end. Public clauses cite this module.
use Rattle.std.specs.Prelude.{◌+◌, ◌-◌, ◌^◌, ℕ, min}

-- one more, where a count of 64 bits has room for it
abbrev pub one_more : ℕ → ℕ
one_more count = min (count + 1) (2 ^ 64 - 1)
