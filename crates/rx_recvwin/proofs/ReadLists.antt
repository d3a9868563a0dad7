-- Lists of which some was given.
use Rattle.std.proofs.Common.{◌≡◌, inl, inr, ◌≤◌, ◌+◌, min, ℕ, suc}
use Rattle.std.proofs.Common.{zero, List, [], ◌∷◌, ◌++◌, length, take, drop, refl, sym, ap}
use Rattle.std.proofs.Common.{◌∙◌, arith}
use Rattle.std.proofs.lemmas.Bool.{cases_lt}
use Rattle.std.proofs.lemmas.List.{length-drop, drop_at, drop-drop}

-- ---- lists

pub nothing : {X : Type 0} (xs : List X) → length xs ≡ 0 → xs ≡ []
nothing [] h = refl
nothing (x ∷ xs) h = absurd (omega (arith, h))

pub past : {X : Type 0} (n : ℕ) (xs : List X) → length xs ≤ n → drop n xs ≡ []
past n xs le = nothing (drop n xs) (length-drop n xs ∙ omega (arith, le))

pub drop_more_at : {X : Type 0} (xs ys : List X) (k n : ℕ) → length xs + k ≡ n → drop n (xs ++ ys) ≡ drop k ys
drop_more_at xs ys k n e =
    ap (λ m. drop m (xs ++ ys)) (sym e) ∙ sym (drop-drop k (length xs) (xs ++ ys))
    ∙ ap (drop k) (drop_at xs ys (length xs) refl)

pub none : (X : Type 0) (n : ℕ) → take {A = X} n [] ≡ []
none X zero = refl
none X (suc n) = refl

take_all_of : {X : Type 0} (xs : List X) (n : ℕ) → length xs ≤ n → take n xs ≡ xs
take_all_of {X} [] n le = none X n
take_all_of (x ∷ xs) zero le = absurd (omega (arith, le))
take_all_of (x ∷ xs) (suc n) le = ap (λ ys. x ∷ ys) (take_all_of xs n (omega (arith, le)))

-- as much as fits
pub fitting : {X : Type 0} (xs : List X) (room n : ℕ) → n ≡ min room (length xs) → take room xs ≡ take n xs
fitting xs room n e =
    elim (cases_lt room (length xs)) as (λ _. take room xs ≡ take n xs) [
      | inl lt ↦ ap (λ m. take m xs) (omega (arith, e, lt))
      | inr le ↦ take_all_of xs room le ∙ sym (take_all_of xs n (omega (arith, e, le)))
    ]

pub take_join : {X : Type 0} (xs : List X) (a n : ℕ) → take a xs ++ take n (drop a xs) ≡ take (a + n) xs
take_join xs zero n = ap (λ m. take m xs) (omega arith)
take_join {X} [] (suc a) n = none X n ∙ sym (none X (suc a + n))
take_join (x ∷ xs) (suc a) n =
    let is : suc a + n ≡ suc (a + n) = omega arith in
    ap (λ ys. x ∷ ys) (take_join xs a n) ∙ ap (λ m. take m (x ∷ xs)) (sym is)
