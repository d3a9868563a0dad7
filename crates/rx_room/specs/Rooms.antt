-- How many bytes can be put behind those of a stream without memory. Public clauses cite this module.
use Rattle.std.specs.Prelude.{ℕ, ◌-◌, max}

-- of a stream of so many bytes with so much memory of its own, where so much is kept: what either has beyond its bytes
abbrev pub room_for : ℕ → ℕ → ℕ → ℕ
room_for kept count own = max kept own - count
