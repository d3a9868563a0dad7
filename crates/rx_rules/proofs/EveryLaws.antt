-- What holds of each of a list.
use Rattle.std.proofs.Common.{◌≡◌, cond, Bool, true, false, List, [], ◌∷◌, ◌++◌, filter, refl}

-- it holds of each
abbrev pub Every : {X : Type 0} → (X → Type 0) → List X → Type 0
Every P [] = Unit {0}
Every P (x ∷ xs) = P x × Every P xs

-- it holds of those that pass a test
pub every-filter : {X : Type 0} (P : X → Type 0) (p : X → Bool) (xs : List X) → Every P xs → Every P (filter p xs)
every-filter P p [] all = tt
every-filter P p (x ∷ xs) all =
    (elim (p x) as (λ b. Every P (cond b (x ∷ filter p xs) (filter p xs))) [
      | true ↦ (all.0, every-filter P p xs all.1)
      | false ↦ every-filter P p xs all.1
    ])

-- those pass it
pub filter-passes : {X : Type 0} (p : X → Bool) (xs : List X) → Every (λ x. p x ≡ true) (filter p xs)
filter-passes p [] = tt
filter-passes p (x ∷ xs) =
    (elim (p x) as (λ b. p x ≡ b → Every (λ x. p x ≡ true) (cond b (x ∷ filter p xs) (filter p xs))) [
      | true ↦ λ is. (is, filter-passes p xs)
      | false ↦ λ is. filter-passes p xs
    ]) refl

-- it holds of each of two lists joined
pub every-append : {X : Type 0} (P : X → Type 0) (xs ys : List X) → Every P xs → Every P ys → Every P (xs ++ ys)
every-append P [] ys a b = b
every-append P (x ∷ xs) ys a b = (a.0, every-append P xs ys a.1 b)
