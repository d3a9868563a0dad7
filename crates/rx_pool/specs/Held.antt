-- What a contract says of the slots that a window or a call holds: a list of their numbers. Public clauses cite this
-- module.
use Rattle.std.specs.Prelude.{◌≡◌, ◌||◌, ◌+◌, ℕ, true, false, List, length}
use Rattle.rx_pool.specs.Pool.{Slots, IsSlotOf, HasNoRepeat, has, bytes_at}

-- these slots may be held: each is of the pool, and none stands twice
pub record Holds (pool : Slots) (held : List ℕ) : Type 0 where
  pub of : (s : ℕ) → has s held ≡ true → IsSlotOf pool s
  pub apart : HasNoRepeat held

-- slot s stays as it was, and isn't among the slots held
pub record Stays (old new : Slots) (after : List ℕ) (s : ℕ) : Type 0 where
  pub of : IsSlotOf new s
  pub bytes : bytes_at new s ≡ bytes_at old s
  pub apart : has s after ≡ false

-- a method of what held some slots and holds others now: those may be held; who else holds slots keeps them as they
-- were; what is no longer held is free; and the counts agree
pub record Keeps (old new : Slots) (before after : List ℕ) : Type 0 where
  pub holds : Holds new after
  pub others : (s : ℕ) → IsSlotOf old s → has s before ≡ false → Stays old new after s
  pub back : (s : ℕ) → (has s old.free || has s before) ≡ true → has s after ≡ false → has s new.free ≡ true
  pub count : length new.free + length after ≡ length old.free + length before
  pub size : length new.bytes ≡ length old.bytes
