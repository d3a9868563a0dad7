-- What a contract sees of a pool: the bytes of each slot, and which slots are free. Public clauses cite this module.
use Rattle.std.specs.Prelude.{◌≡◌, ◌≢◌, ◌<◌, ◌≤◌, ◌==◌, ◌||◌, ◌+◌, ℕ, suc, Bool, true, false, List, [], ◌∷◌, ◌++◌}
use Rattle.std.specs.Prelude.{length, take, drop, slice_index_or}
use Rattle.rx_pool.specs.declared.pool.TheConstants.{SLOT_BYTES, MAX_SLOTS}

-- the bytes of each slot by its number, and the numbers of the free slots
pub record Slots : Type 0 where
  pub bytes : List (List ℕ)
  pub free : List ℕ

-- whether a number is in a list
abbrev pub has : ℕ → List ℕ → Bool
has s [] = false
has s (x ∷ xs) = (x == s) || has s xs

-- no number stands twice in a list
abbrev pub HasNoRepeat : List ℕ → Type 0
HasNoRepeat [] = Unit {0}
HasNoRepeat (x ∷ xs) = (has x xs ≡ false) × HasNoRepeat xs

-- each number of a list is below a bound
abbrev pub AllBelow : ℕ → List ℕ → Type 0
AllBelow n [] = Unit {0}
AllBelow n (x ∷ xs) = (x < n) × AllBelow n xs

-- the bytes of one slot
abbrev pub bytes_at : Slots → ℕ → List ℕ
bytes_at pool s = slice_index_or pool.bytes s []

-- a slot is of a pool: it is there, and isn't free; it has as many bytes as each slot
pub record IsSlotOf (pool : Slots) (s : ℕ) : Type 0 where
  pub within : s < length pool.bytes
  pub held : has s pool.free ≡ false
  pub size : length (bytes_at pool s) ≡ SLOT_BYTES

-- the bytes from one place on become others
abbrev pub overwrite : List ℕ → ℕ → List ℕ → List ℕ
overwrite old at new = take at old ++ new ++ drop (at + length new) old

-- slot s was free and is taken; nothing else changes
pub record Takes (old new : Slots) (s : ℕ) : Type 0 where
  pub of : IsSlotOf new s
  pub free : has s old.free ≡ true
  pub others : (t : ℕ) → t ≢ s → has t new.free ≡ has t old.free
  pub count : length old.free ≡ suc (length new.free)
  pub bytes : new.bytes ≡ old.bytes

-- ---- what a pool keeps true

-- each slot has as many bytes as any
abbrev pub HasFullSlots : List (List ℕ) → Type 0
HasFullSlots bytes = (s : ℕ) → s < length bytes → length (slice_index_or bytes s []) ≡ SLOT_BYTES

-- the free slots are slots of this pool, none named twice, and there is room to name them all
pub record IsFit (pool : Slots) (capacity : ℕ) : Type 0 where
  pub apart : HasNoRepeat pool.free
  pub below : AllBelow (length pool.bytes) pool.free
  pub room : length pool.bytes ≤ capacity
  pub most : length pool.bytes ≤ MAX_SLOTS
  pub full : HasFullSlots pool.bytes
