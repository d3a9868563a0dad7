-- What stands twice is what was met before.
use Rattle.std.proofs.Common.{◌≡◌, ℕ, zero, suc, ◌<◌, Bool, true, List, [], ◌∷◌, take, slice_get, Some, refl, sym}
use Rattle.std.proofs.Common.{subst, ◌∙◌, arith, inl, inr}
use Rattle.std.specs.List.{list_any}
use Rattle.std.proofs.lemmas.Bool.{or_cases, or_left, or_right, false≢true}
use Rattle.xg_check.specs.Constants.{ConstantDef}
use Rattle.xg_check.specs.Marks.{Mark}
use Rattle.xg_check.specs.Judged.{are_same, IsTwice}
use Rattle.xg_check.specs.Met.{is_met}

-- where one of the list passes a test, it stands at a place
any_at : {A : Type 0} (test : A → Bool) (xs : List A) → list_any test xs ≡ true
    → (j : ℕ) × (x : A) × (slice_get xs j ≡ Some x) × (test x ≡ true)
any_at test [] e = absurd (false≢true e)
any_at test (x ∷ xs) e = elim (or_cases (test x) (list_any test xs) e) [
  | inl h ↦ (0, x, refl, h)
  | inr h ↦ let r = any_at test xs h in (suc r.0, r.1, r.2, r.3)
]

any_from : {A : Type 0} (test : A → Bool) (xs : List A) (j : ℕ) (x : A) → slice_get xs j ≡ Some x → test x ≡ true
    → list_any test xs ≡ true
any_from test [] j x e t = absurd cc
any_from {A} test (y ∷ xs) zero x e t =
    let same : x ≡ y = cc in
    or_left (test y) (list_any test xs) (subst (λ (z : A). test z ≡ true) same t)
any_from test (y ∷ xs) (suc j) x e t = or_right (test y) (list_any test xs) (any_from test xs j x e t)

at_taken : {A : Type 0} (xs : List A) (i j : ℕ) (x : A) → slice_get (take i xs) j ≡ Some x
    → (j < i) × (slice_get xs j ≡ Some x)
at_taken [] zero j x e = absurd cc
at_taken [] (suc i) j x e = absurd cc
at_taken (y ∷ xs) zero j x e = absurd cc
at_taken (y ∷ xs) (suc i) zero x e = (omega arith, e)
at_taken (y ∷ xs) (suc i) (suc j) x e = let r = at_taken xs i j x e in (omega (arith, r.0), r.1)

to_taken : {A : Type 0} (xs : List A) (i j : ℕ) (x : A) → j < i → slice_get xs j ≡ Some x
    → slice_get (take i xs) j ≡ Some x
to_taken [] i j x lt e = absurd cc
to_taken (y ∷ xs) zero j x lt e = absurd (omega (arith, lt))
to_taken (y ∷ xs) (suc i) zero x lt e = e
to_taken (y ∷ xs) (suc i) (suc j) x lt e = to_taken xs i j x (omega (arith, lt)) e

-- what was met before is the second of two
pub met_is_twice : (cs : List ConstantDef) (marks : List Mark) (k : ℕ) (m : Mark) → slice_get marks k ≡ Some m
    → is_met cs (take k marks) m ≡ true → IsTwice cs marks k
met_is_twice cs marks k m at e =
    let r = any_at (λ o. are_same cs m o) (take k marks) e in
    let s = at_taken marks k r.0 r.1 r.2 in
    record { mark = m; stands = at; earlier = r.0; before = s.0; other = r.1; stood = s.1; same = r.3 }

pub twice_is_met : (cs : List ConstantDef) (marks : List Mark) (k : ℕ) (m : Mark) → slice_get marks k ≡ Some m
    → IsTwice cs marks k → is_met cs (take k marks) m ≡ true
twice_is_met cs marks k m at t =
    let both : Some t.mark ≡ Some m = sym t.stands ∙ at in
    let is : t.mark ≡ m = cc in
    any_from (λ o. are_same cs m o) (take k marks) t.earlier t.other
    (to_taken marks k t.earlier t.other t.before t.stood)
    (subst (λ (x : Mark). are_same cs x t.other ≡ true) is t.same)
