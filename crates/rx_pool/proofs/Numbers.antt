-- Lists of numbers: what is in them, none twice, all below a bound.
use Rattle.std.proofs.Common.{◌≡◌, ◌≢◌, ◌⊎◌, inl, inr, ◌<◌, ◌≤◌, ◌+◌, ◌==◌, ◌||◌, cond, true, false, ℕ, suc, zero}
use Rattle.std.proofs.Common.{List, [], ◌∷◌, ◌++◌, length, refl, sym, ap, ◌∙◌, arith}
use Rattle.std.proofs.lemmas.Bool.{cases_eq, false≢true}
use Rattle.std.specs.Prelude.{nat_lt}
use Rattle.std.proofs.lemmas.Bool.Decides.{nat_tests}
use Rattle.rx_pool.specs.Pool.{has, HasNoRepeat, AllBelow}

pub is_one : (s : ℕ) → (s == s) ≡ true
is_one s = grind (arith, nat_tests)

pub is_other : (x s : ℕ) → x ≢ s → (x == s) ≡ false
is_other x s apart = grind (arith, nat_tests, apart)

pub has_first : (s : ℕ) (xs : List ℕ) → has s (s ∷ xs) ≡ true
has_first s xs = rw (is_one s) refl

pub has_rest : (s t : ℕ) (xs : List ℕ) → s ≢ t → has t (s ∷ xs) ≡ has t xs
has_rest s t xs apart = rw (is_other s t apart) refl

pub has_cases : (s t : ℕ) (xs : List ℕ) → has t (s ∷ xs) ≡ true → (s ≡ t) ⊎ (has t xs ≡ true)
has_cases s t xs h =
    elim (cases_eq s t) as (λ _. (s ≡ t) ⊎ (has t xs ≡ true)) [
      | inl e ↦ inl e
      | inr apart ↦ inr (sym (has_rest s t xs apart) ∙ h)
    ]

pub has_later : (s t : ℕ) (xs : List ℕ) → has t xs ≡ true → has t (s ∷ xs) ≡ true
has_later s t xs h =
    elim (cases_eq s t) as (λ _. has t (s ∷ xs) ≡ true) [
      | inl e ↦ ap (λ u. has u (s ∷ xs)) (sym e) ∙ has_first s xs
      | inr apart ↦ has_rest s t xs apart ∙ h
    ]

pub not_first : (s t : ℕ) (xs : List ℕ) → has t (s ∷ xs) ≡ false → s ≢ t
not_first s t xs h = λ e. false≢true (sym h ∙ ap (λ u. has u (s ∷ xs)) (sym e) ∙ has_first s xs)

pub not_later : (s t : ℕ) (xs : List ℕ) → has t (s ∷ xs) ≡ false → has t xs ≡ false
not_later s t xs h = sym (has_rest s t xs (not_first s t xs h)) ∙ h

pub not_has : (s t : ℕ) (xs : List ℕ) → s ≢ t → has t xs ≡ false → has t (s ∷ xs) ≡ false
not_has s t xs apart h = has_rest s t xs apart ∙ h

-- what one list has and another hasn't are two
pub two : (s t : ℕ) (xs : List ℕ) → has s xs ≡ true → has t xs ≡ false → s ≢ t
two s t xs h n = λ e. false≢true (sym n ∙ ap (λ u. has u xs) (sym e) ∙ h)

-- ---- one more at the end

pub has_push : (y s : ℕ) (xs : List ℕ) → has s (xs ++ y ∷ []) ≡ has s (y ∷ xs)
has_push y s [] = refl
has_push y s (x ∷ xs) =
    let rest = has_push y s xs in
    ap (λ b. (x == s) || b) rest
    ∙ (elim (x == s) as (λ b. (b || ((y == s) || has s xs)) ≡ ((y == s) || (b || has s xs))) [
      | true ↦ (elim (y == s) as (λ b. true ≡ (b || true)) [ true ↦ refl | false ↦ refl ])
      | false ↦ refl
    ])

pub no_repeat_push : (y : ℕ) (xs : List ℕ) → HasNoRepeat xs → has y xs ≡ false → HasNoRepeat (xs ++ y ∷ [])
no_repeat_push y [] a n = (refl, tt)
no_repeat_push y (x ∷ xs) a n = (
  has_push y x xs ∙ not_has y x xs (λ e. not_first x y xs n (sym e)) a.0,
  no_repeat_push y xs a.1 (not_later x y xs n),
)

pub below_push : (n y : ℕ) (xs : List ℕ) → AllBelow n xs → y < n → AllBelow n (xs ++ y ∷ [])
below_push n y [] b lt = (lt, tt)
below_push n y (x ∷ xs) b lt = (b.0, below_push n y xs b.1 lt)

pub below_more : (n : ℕ) (xs : List ℕ) → AllBelow n xs → AllBelow (n + 1) xs
below_more n [] b = tt
below_more n (x ∷ xs) b = (let h = b.0 in omega (arith, h), below_more n xs b.1)

pub below_not : (n : ℕ) (xs : List ℕ) → AllBelow n xs → has n xs ≡ false
below_not n [] b = refl
below_not n (x ∷ xs) b = not_has x n xs (λ e. (let h = b.0 in omega (arith, h, e))) (below_not n xs b.1)

-- all below n, and n
pub has_next : (n : ℕ) (before after : List ℕ) → after ≡ before ++ n ∷ [] → ((s : ℕ) → has s before ≡ nat_lt s n) →
    (s : ℕ) → has s after ≡ nat_lt s (n + 1)
has_next n before after is below s =
    ap (has s) is ∙ has_push n s before
    ∙ (elim (cases_eq n s) as (λ _. has s (n ∷ before) ≡ nat_lt s (n + 1)) [
      | inl e ↦ ap (λ u. has u (n ∷ before)) (sym e) ∙ has_first n before ∙ grind (arith, nat_tests, e)
      | inr apart ↦ has_rest n s before apart ∙ below s ∙ grind (arith, nat_tests, apart)
    ])

-- ---- the last one taken away

pub no_repeat_front : (y : ℕ) (xs : List ℕ) → HasNoRepeat (xs ++ y ∷ []) → HasNoRepeat xs
no_repeat_front y [] a = tt
no_repeat_front y (x ∷ xs) a = (not_later y x xs (sym (has_push y x xs) ∙ a.0), no_repeat_front y xs a.1)

pub no_repeat_last : (y : ℕ) (xs : List ℕ) → HasNoRepeat (xs ++ y ∷ []) → has y xs ≡ false
no_repeat_last y [] a = refl
no_repeat_last y (x ∷ xs) a =
    not_has x y xs (λ e. not_first y x xs (sym (has_push y x xs) ∙ a.0) (sym e)) (no_repeat_last y xs a.1)

pub below_front : (n y : ℕ) (xs : List ℕ) → AllBelow n (xs ++ y ∷ []) → AllBelow n xs
below_front n y [] b = tt
below_front n y (x ∷ xs) b = (b.0, below_front n y xs b.1)

pub below_last : (n y : ℕ) (xs : List ℕ) → AllBelow n (xs ++ y ∷ []) → y < n
below_last n y [] b = b.0
below_last n y (x ∷ xs) b = below_last n y xs b.1

-- ---- as many as there are numbers below the bound

without : ℕ → List ℕ → List ℕ
without s [] = []
without s (x ∷ xs) = cond (x == s) xs (x ∷ without s xs)

not_without : (s t : ℕ) (xs : List ℕ) → has t xs ≡ false → has t (without s xs) ≡ false
unfolding without
not_without s t [] h = refl
not_without s t (x ∷ xs) h =
    elim (x == s) as (λ b. has t (cond b xs (x ∷ without s xs)) ≡ false) [
      | true ↦ not_later x t xs h
      | false ↦ not_has x t (without s xs) (not_first x t xs h) (not_without s t xs (not_later x t xs h))
    ]

no_repeat_without : (s : ℕ) (xs : List ℕ) → HasNoRepeat xs → HasNoRepeat (without s xs)
unfolding without
no_repeat_without s [] a = tt
no_repeat_without s (x ∷ xs) a =
    elim (x == s) as (λ b. HasNoRepeat (cond b xs (x ∷ without s xs))) [
      | true ↦ a.1
      | false ↦ (not_without s x xs a.0, no_repeat_without s xs a.1)
    ]

below_less : (n : ℕ) (xs : List ℕ) → AllBelow (suc n) xs → has n xs ≡ false → AllBelow n xs
below_less n [] b h = tt
below_less n (x ∷ xs) b h =
    let lt = b.0 in
    let apart = not_first x n xs h in
    (omega (arith, lt, apart), below_less n xs b.1 (not_later x n xs h))

below_without : (n : ℕ) (xs : List ℕ) → AllBelow (suc n) xs → HasNoRepeat xs → AllBelow n (without n xs)
unfolding without
below_without n [] b a = tt
below_without n (x ∷ xs) b a =
    (elim (x == n) as (λ t. (x == n) ≡ t → AllBelow n (cond t xs (x ∷ without n xs))) [
      | true ↦ λ e. (
          let is : x ≡ n = grind (arith, nat_tests, e) in
          below_less n xs b.1 (ap (λ k. has k xs) (sym is) ∙ a.0))
      | false ↦ λ e. (
          let apart : x ≢ n = grind (arith, nat_tests, e) in
          let lt = b.0 in
          (omega (arith, lt, apart), below_without n xs b.1 a.1))
    ]) refl

length_without : (s : ℕ) (xs : List ℕ) → length xs ≤ suc (length (without s xs))
unfolding without
length_without s [] = omega arith
length_without s (x ∷ xs) =
    let rest = length_without s xs in
    elim (x == s) as (λ b. suc (length xs) ≤ suc (length (cond b xs (x ∷ without s xs)))) [
      | true ↦ omega arith
      | false ↦ omega (arith, rest)
    ]

pub few : (n : ℕ) (xs : List ℕ) → HasNoRepeat xs → AllBelow n xs → length xs ≤ n
few n [] a b = omega arith
few zero (x ∷ xs) a b = (let lt = b.0 in absurd (omega (arith, lt)))
few (suc n) (x ∷ xs) a b =
    let rest = few n (without n (x ∷ xs)) (no_repeat_without n (x ∷ xs) a) (below_without n (x ∷ xs) b a) in
    let size = length_without n (x ∷ xs) in
    omega (arith, rest, size)
