-- The least of three numbers.
use Rattle.std.proofs.Common.{◌≡◌, ◌⊎◌, inl, inr, ℕ, min, arith}
use Rattle.std.proofs.lemmas.Bool.{cases_lt}

-- ---- in numbers

-- the least of three is one of them
pub min_is : (x y z : ℕ) → (min (min x y) z ≡ x) ⊎ ((min (min x y) z ≡ y) ⊎ (min (min x y) z ≡ z))
min_is x y z = elim (cases_lt x y) as (λ c. (min (min x y) z ≡ x) ⊎ ((min (min x y) z ≡ y) ⊎ (min (min x y) z ≡ z))) [
  | inl less ↦ elim (cases_lt x z) as (λ c. (min (min x y) z ≡ x) ⊎ ((min (min x y) z ≡ y) ⊎ (min (min x y) z ≡ z))) [
    | inl low ↦ inl (omega arith)
    | inr high ↦ inr (inr (omega arith))
  ]
  | inr more ↦ elim (cases_lt y z) as (λ c. (min (min x y) z ≡ x) ⊎ ((min (min x y) z ≡ y) ⊎ (min (min x y) z ≡ z))) [
    | inl low ↦ inr (inl (omega arith))
    | inr high ↦ inr (inr (omega arith))
  ]
]

pub min_first : (x y z : ℕ) → x ≡ 0 → min (min x y) z ≡ 0
min_first x y z none = omega arith

pub min_second : (x y z : ℕ) → y ≡ 0 → min (min x y) z ≡ 0
min_second x y z none = omega arith

pub min_third : (x y z : ℕ) → z ≡ 0 → min (min x y) z ≡ 0
min_third x y z none = omega arith
