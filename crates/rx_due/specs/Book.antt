-- What a contract sees of a `DueBook`: the moment of each key below its number of keys. Public clauses cite this
-- module.
use Rattle.std.specs.Prelude.{◌≡◌, ◌≤◌, ℕ, List, Option, Some, None, is_some, count_by, slice_index_or}

-- the moment of a key, if it has one
abbrev pub moment_of : List (Option ℕ) → ℕ → Option ℕ
moment_of book key = slice_index_or book key None

-- how many keys have a moment
abbrev pub entries_of : List (Option ℕ) → ℕ
entries_of book = count_by is_some book

-- a pair of moment and key is before another, or is that one: its moment is earlier, or the same and its key no greater
pub record IsNotAfter (a b : ℕ × ℕ) : Type 0 where
  pub moment : a.0 ≤ b.0
  pub key : a.0 ≡ b.0 → a.1 ≤ b.1

-- a pair of moment and key is in the book, and none in it is before that pair
pub record IsLeast (book : List (Option ℕ)) (pair : ℕ × ℕ) : Type 0 where
  pub there : moment_of book pair.1 ≡ Some pair.0
  pub least : (key moment : ℕ) → moment_of book key ≡ Some moment → IsNotAfter pair (moment, key)
