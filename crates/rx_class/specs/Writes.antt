-- Bytes that are written to the front of a buffer. Public clauses cite this module.
use Rattle.std.specs.Prelude.{◌≡◌, ◌++◌, ℕ, List, length, drop}

-- these bytes stand in front, as many as is answered, and the rest stays
pub record WritesFront (bytes old new : List ℕ) (count : ℕ) : Type 0 where
  pub counted : count ≡ length bytes
  pub front : new ≡ bytes ++ drop (length bytes) old
