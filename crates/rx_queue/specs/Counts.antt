-- How the numbers of a queue's keys stand. Its invariant cites this module; no public clause does.
use Rattle.std.specs.Prelude.{◌≡◌, ◌<◌, ◌^◌, ◌==◌, ◌++◌, ◌∷◌, ℕ, zero, suc, Bool, false, List, [], Option, Some, None}
use Rattle.std.specs.Prelude.{length}
use Rattle.std.specs.Prelude.{if◌then◌else◌}
use Rattle.std.specs.List.{filter_map}
use Rattle.rx_due.specs.Book.{moment_of}

-- a key has this number
abbrev pub is_count : Option ℕ → ℕ → Bool
is_count None n = false
is_count (Some m) n = m == n

-- of these keys, which are numbered from one on, the first with a number
unfoldable pub key_from : ℕ → List (Option ℕ) → ℕ → Option ℕ
key_from i [] n = None
key_from i (c ∷ cs) n = if is_count c n then Some i else key_from (suc i) cs n

-- the key with a number
abbrev pub key_at : List (Option ℕ) → ℕ → Option ℕ
key_at counts n = key_from 0 counts n

-- the numbers below one
unfoldable pub upto : ℕ → List ℕ
upto zero = []
upto (suc n) = upto n ++ n ∷ []

-- the keys by their numbers
abbrev pub order_of : List (Option ℕ) → ℕ → List ℕ
order_of counts next = filter_map (key_at counts) (upto next)

-- no two keys have one number
abbrev pub IsApart : List (Option ℕ) → Type 0
IsApart counts = (p q n : ℕ) → moment_of counts p ≡ Some n → moment_of counts q ≡ Some n → p ≡ q

-- each number is below the next; no two keys have one; a key that is ready has its number in the book, and there is
-- room for each key there
pub record IsQueue (counts ready : List (Option ℕ)) (next : ℕ) : Type 0 where
  pub room : length counts ≡ length ready
  pub limit : length counts < 2 ^ 32
  pub below : (key n : ℕ) → moment_of counts key ≡ Some n → n < next
  pub apart : IsApart counts
  pub told : (key n : ℕ) → moment_of ready key ≡ Some n → moment_of counts key ≡ Some n
