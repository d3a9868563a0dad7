-- Sums of a number for each of a list: where each only grows, and the sum is the same, each is the same; and where each
-- only falls, and one falls by 2,000 in each two steps, there are few steps.
use Rattle.std.proofs.Common.{◌≡◌, ◌⊎◌, ◌+◌, ◌*◌, ◌<◌, ◌≤◌, ℕ, zero, suc, List, [], ◌∷◌, length, inl, inr, refl, subst}
use Rattle.std.proofs.Common.{arith}
use Rattle.std.proofs.Math.Nat.{mul-suc}
use Rattle.rx_between.proofs.Each.EachItem.{In}

-- ---- sums

-- of a number for each
abbrev pub sum_of : {M : Type 0} → (M → ℕ) → List M → ℕ
sum_of f [] = 0
sum_of f (m ∷ ms) = f m + sum_of f ms

module _ {M : Type 0} where
  -- where each is no more, the sum isn't
  pub sum_low : (ms : List M) (f g : M → ℕ) → ((m : M) → In m ms → f m ≤ g m) → sum_of f ms ≤ sum_of g ms
  sum_low [] f g low = omega arith
  sum_low (m ∷ ms) f g low =
      (let one = low m (inl refl) in
      let rest = sum_low ms f g (λ n there. low n (inr there)) in
      omega (arith, one, rest))

  -- no more than so much for each
  pub sum_most : (ms : List M) (f : M → ℕ) (most : ℕ) → ((m : M) → In m ms → f m ≤ most)
      → sum_of f ms ≤ most * length ms
  sum_most [] f most low = omega arith
  sum_most (m ∷ ms) f most low =
      (let one = low m (inl refl) in
      let rest = sum_most ms f most (λ n there. low n (inr there)) in
      let all : most * suc (length ms) ≡ most * length ms + most = mul-suc most (length ms) in
      omega (arith, one, rest, all))

  -- where one falls by so much, and none rises, the sum does
  pub sum_falls : (ms : List M) (f g : M → ℕ) (less : ℕ) → ((m : M) → In m ms → g m ≤ f m) → (m : M) → In m ms
      → g m + less ≤ f m → sum_of g ms + less ≤ sum_of f ms
  sum_falls [] f g less low m there falls = absurd there
  sum_falls (n ∷ ns) f g less low m (inl is) falls =
      (let own : g n + less ≤ f n = subst (λ (x : M). g x + less ≤ f x) is falls in
      let rest = sum_low ns g f (λ x inside. low x (inr inside)) in
      omega (arith, own, rest))
  sum_falls (n ∷ ns) f g less low m (inr there) falls =
      (let one = low n (inl refl) in
      let rest = sum_falls ns f g less (λ x inside. low x (inr inside)) m there falls in
      omega (arith, one, rest))

-- ---- steps

-- a number that falls by 2,000 in each two of so many steps, and rises in none
falls_few : (n : ℕ) (total : ℕ → ℕ) → ((i : ℕ) → i < n → total (suc i) ≤ total i)
    → ((i : ℕ) → suc i < n → total (suc (suc i)) + 2000 ≤ total i) → 1000 * n ≤ total 0 + 1000
falls_few zero total low falls = omega arith
falls_few (suc zero) total low falls = omega arith
falls_few (suc (suc n)) total low falls =
    (let rest = falls_few n (λ i. total (suc (suc i))) (λ i less. low (suc (suc i)) (omega (arith, less)))
    (λ i less. falls (suc (suc i)) (omega (arith, less))) in
    let two = falls 0 (omega arith) in
    omega (arith, rest, two))

-- one of the numbers of a step falls by 2,000
abbrev pub OneFalls : {M : Type 0} → List M → (M → ℕ) → (M → ℕ) → Type 0
OneFalls {M = M} ms f g = (m : M) × In m ms × (g m + 2000 ≤ f m)

-- numbers of at most 90,100 each, of which none rises and one falls in each two of so many steps
pub counts : {M : Type 0} (ms : List M) (load : ℕ → M → ℕ) (n : ℕ) → ((m : M) → In m ms → load 0 m ≤ 90100)
    → ((i : ℕ) → i < n → (m : M) → In m ms → load (suc i) m ≤ load i m)
    → ((i : ℕ) → suc i < n → OneFalls ms (load i) (load (suc i)) ⊎ OneFalls ms (load (suc i)) (load (suc (suc i))))
    → 1000 * n ≤ 90100 * length ms + 1000
counts {M = M} ms load n most low falls =
    (let all = sum_most ms (load 0) 90100 most in
    let few = falls_few n (λ i. sum_of (load i) ms) step two in
    omega (arith, all, few))
  where
    step : (i : ℕ) → i < n → sum_of (load (suc i)) ms ≤ sum_of (load i) ms
    step i less = sum_low ms (load (suc i)) (load i) (low i less)

    two : (i : ℕ) → suc i < n → sum_of (load (suc (suc i))) ms + 2000 ≤ sum_of (load i) ms
    two i less = of (falls i less)
      where
        first : sum_of (load (suc i)) ms ≤ sum_of (load i) ms
        first = step i (omega (arith, less))

        second : sum_of (load (suc (suc i))) ms ≤ sum_of (load (suc i)) ms
        second = step (suc i) less

        of : OneFalls ms (load i) (load (suc i)) ⊎ OneFalls ms (load (suc i)) (load (suc (suc i)))
            → sum_of (load (suc (suc i))) ms + 2000 ≤ sum_of (load i) ms
        of (inl one) =
            (let less_ = sum_falls ms (load i) (load (suc i)) 2000 (low i (omega (arith, less))) one.0 one.1 one.2 in
            omega (arith, less_, second))
        of (inr one) =
            (let less_ = sum_falls ms (load (suc i)) (load (suc (suc i))) 2000 (low (suc i) less) one.0 one.1 one.2 in
            omega (arith, less_, first))

-- so there are fewer than 200 for each of them and one more
pub too_many : (n few : ℕ) → 1000 * few ≤ 90100 * n + 1000 → few + 8 < 200 * (n + 1)
too_many n few low = omega (arith, low)
