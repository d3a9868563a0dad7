-- A list with one more behind it.
use Rattle.std.proofs.Common.{◌≡◌, ℕ, zero, suc, List, [], ◌∷◌, ◌++◌, length, Some, refl, ap}
use Rattle.std.specs.Prelude.{slice_get}

-- what stands there is of the list, or is that one
pub data OldOrNew {X : Type 0} (xs : List X) (x : X) (i : ℕ) (y : X) : Type 0 where
  Old : slice_get xs i ≡ Some y → OldOrNew xs x i y
  New : i ≡ length xs → x ≡ y → OldOrNew xs x i y

pub old_or_new : {X : Type 0} (xs : List X) (x y : X) (i : ℕ) → slice_get (xs ++ x ∷ []) i ≡ Some y → OldOrNew xs x i y
old_or_new [] x y zero there = New refl (let same : x ≡ y = cc (there) in same)
old_or_new [] x y (suc i) there = absurd (cc (there))
old_or_new (z ∷ xs) x y zero there = Old there
old_or_new (z ∷ xs) x y (suc i) there = further (old_or_new xs x y i there)
  where
    further : OldOrNew xs x i y → OldOrNew (z ∷ xs) x (suc i) y
    further (Old is) = Old is
    further (New is same) = New (ap (λ (k : ℕ). suc k) is) same
