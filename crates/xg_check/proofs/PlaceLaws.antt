-- Places of which something holds first.
use Rattle.std.proofs.Common.{◌≡◌, ℕ, zero, suc, ◌<◌, arith, refl, ◌⊎◌, inl, inr}
use Rattle.xg_check.specs.Places.{IsFirst, HoldsNowhere}

pub less_or_more : (j k : ℕ) → (j < k) ⊎ ((k < j) ⊎ (j ≡ k))
less_or_more zero zero = inr (inr refl)
less_or_more zero (suc k) = inl (omega arith)
less_or_more (suc j) zero = inr (inl (omega arith))
less_or_more (suc j) (suc k) = elim (less_or_more j k) [
  | inl h ↦ inl (omega (arith, h))
  | inr (inl h) ↦ inr (inl (omega (arith, h)))
  | inr (inr e) ↦ inr (inr (omega (arith, e)))
]

-- there is one first place
pub one_first : (P : ℕ → Type 0) (j k : ℕ) → IsFirst P j → IsFirst P k → j ≡ k
one_first P j k f g = elim (less_or_more j k) [
  | inl h ↦ absurd (g.1 j h f.0)
  | inr (inl h) ↦ absurd (f.1 k h g.0)
  | inr (inr e) ↦ e
]

-- nowhere, where it holds of no place of a list, and of none behind it
pub nowhere : (P : ℕ → Type 0) (n : ℕ) → ((k : ℕ) → P k → k < n) → ((k : ℕ) → k < n → P k → ⊥) → HoldsNowhere P
nowhere P n within none k h = none k (within k h) h
