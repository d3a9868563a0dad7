-- The pieces of a stream that count: they never change as it grows. Public clauses cite this module.
use Rattle.std.specs.Prelude.{◌≡◌, ◌<◌, ◌≤◌, ◌+◌, ◌*◌, ℕ, zero, suc, Bool, true, false, List, length, take, drop}
use Rattle.rx_rules.specs.Received.{Piece}

-- what a piece that counts is, behind j others: its bytes; one that isn't the last has bytes behind it, and the last
-- one none, in a stream that is shut
pub record IsPiece (bytes : List ℕ) (shut : Bool) (j : ℕ) (p : Piece) : Type 0 where
  pub payload_is : p.payload ≡ take 1412 (drop (1412 * j) bytes)
  pub more : p.last ≡ false → 1412 * j + 1412 < length bytes
  pub done : p.last ≡ true → (shut ≡ true) × (length bytes ≤ 1412 * j + 1412)

-- the same by its seq
abbrev pub IsAt : List ℕ → Bool → ℕ → Piece → Type 0
IsAt bytes shut zero p = ⊥
IsAt bytes shut (suc j) p = IsPiece bytes shut j p
