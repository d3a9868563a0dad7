-- The bytes of a request that are left, and the next of them.
use Rattle.std.proofs.Common.{◌≡◌, ◌≤◌, ◌<◌, ◌+◌, ◌-◌, ℕ, zero, suc, Bool, true, false, List, [], ◌∷◌, length, take}
use Rattle.std.proofs.Common.{drop, min}
use Rattle.std.proofs.Common.{refl, ◌∙◌, ap, sym, subst, arith, length-take, length-drop}
use Rattle.rx_asks.specs.declared.ask.Ask.TheVariants as asks
use Rattle.rx_asks.specs.Asks.{next_offering}

-- all of a list
take-all : (n : ℕ) (xs : List ℕ) → length xs ≤ n → take n xs ≡ xs
take-all zero [] within = refl
take-all (suc n) [] within = refl
take-all zero (x ∷ xs) within = absurd (omega arith)
take-all (suc n) (x ∷ xs) within = ap (λ (ys : List ℕ). x ∷ ys) (take-all n xs (omega arith))

-- as many as there are, or so many
take-within : (n : ℕ) (xs : List ℕ) → take (min (length xs) n) xs ≡ take n xs
take-within zero [] = refl
take-within (suc n) [] =
    let none : min zero (suc n) ≡ zero = omega arith in
    ap (λ (k : ℕ). take k []) none
take-within zero (x ∷ xs) =
    let none : min (suc (length xs)) zero ≡ zero = omega arith in
    ap (λ (k : ℕ). take k (x ∷ xs)) none
take-within (suc n) (x ∷ xs) =
    let more : min (suc (length xs)) (suc n) ≡ suc (min (length xs) n) = omega arith in
    subst (λ (k : ℕ). take k (x ∷ xs) ≡ x ∷ take n xs) (sym more)
    (ap (λ (ys : List ℕ). x ∷ ys) (take-within n xs))

-- where some are left, they are offered
pub offers_more : (shut : Bool) (n : ℕ) (xs : List ℕ) → shut ≡ false → n < length xs
    → asks.Offer ≡ next_offering shut (drop n xs)
offers_more true n xs unshut some = absurd cc
offers_more false n xs unshut some = of (drop n xs) (let rest = length-drop n xs in omega arith)
  where
    of : (ys : List ℕ) → 0 < length ys → asks.Offer ≡ next_offering false ys
    of [] some = absurd (omega arith)
    of (y ∷ ys) some = refl

-- the next bytes are the first of those that are left
pub next_is : (a n k : ℕ) (xs : List ℕ) → k ≡ min (length (take (length xs - a) (drop a xs))) n
    → take k (take (length xs - a) (drop a xs)) ≡ take n (drop a xs)
next_is a n k xs is =
    let left : List ℕ = take (length xs - a) (drop a xs) in
    let size = length-drop a xs in
    ap (λ (j : ℕ). take j left) is ∙ take-within n left
    ∙ ap (take n) (take-all (length xs - a) (drop a xs) (omega arith))

-- those that were accepted are no more than are left
accepted-within : (n m k : ℕ) (xs : List ℕ) → n ≤ length xs → n + length (take k (take m (drop n xs))) ≤ length xs
accepted-within n m k xs within =
    let some = length-take k (take m (drop n xs)) in
    let block = length-take m (drop n xs) in
    let rest = length-drop n xs in
    omega arith

module _ (a m k size n : ℕ) (xs block bytes : List ℕ) where
  -- and so many more are within the request
  pub accepts_within : a ≤ size → size ≡ length xs → block ≡ take m (drop a xs) → bytes ≡ take k block
      → n ≡ length bytes → a + n ≤ size
  accepts_within within is next first count =
      let all : bytes ≡ take k (take m (drop a xs)) = first ∙ ap (take k) next in
      let len : n ≡ length (take k (take m (drop a xs))) = count ∙ ap length all in
      let low = accepted-within a m k xs (subst (λ (j : ℕ). a ≤ j) is within) in
      omega arith
