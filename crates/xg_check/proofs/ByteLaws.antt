-- Counts that stand still behind the most.
use Rattle.std.proofs.Common.{◌≡◌, ℕ, ◌+◌, ◌-◌, ◌*◌, ◌^◌, ◌<◌, ◌≤◌, min, max, List, [], ◌∷◌, length, drop, get_or}
use Rattle.std.proofs.Common.{Option, Some, None, option_map, refl, sym, ap, ◌∙◌, arith, inl, inr}
use Rattle.std.proofs.Math.Nat.{mul-le-mul_left}
use Rattle.std.proofs.lemmas.List.{at_drop_more, at_drop_all}
use Rattle.std.proofs.lemmas.Bool.{cases_lt}
use Rattle.xg_check.specs.Encodings.{both}
use Rattle.xg_check.specs.Held.{capped}

of_some : {A : Type 0} (x y : A) → Some x ≡ Some y → x ≡ y
of_some x y e = cc

plus_one : (a s m p : ℕ) → a ≡ capped m → capped (capped (a + s) + p) ≡ capped (s + (m + p))
plus_one a s m p e = omega (arith, e)

max_one : (a s m p : ℕ) → a ≡ capped m → capped (max (max a s) p) ≡ capped (max s (max m p))
max_one a s m p e = omega (arith, e)

-- a sum with one more
pub plus_more : (a s : ℕ) (o p : Option ℕ) → Some a ≡ option_map capped o
    → option_map capped (both (λ m n. m + n) (Some (capped (a + s))) p)
    ≡ option_map capped (both (λ m n. m + n) (Some s) (both (λ m n. m + n) o p))
plus_more a s None p e = absurd cc
plus_more a s (Some m) None e = refl
plus_more a s (Some m) (Some n) e = ap Some (plus_one a s m n (of_some a (capped m) e))

pub max_more : (a s : ℕ) (o p : Option ℕ) → Some a ≡ option_map capped o
    → option_map capped (both max (Some (max a s)) p)
    ≡ option_map capped (both max (Some s) (both max o p))
max_more a s None p e = absurd cc
max_more a s (Some m) None e = refl
max_more a s (Some m) (Some n) e = ap Some (max_one a s m n (of_some a (capped m) e))

-- where one has none, there is none
pub none_left : (f : ℕ → ℕ → ℕ) (s : ℕ) (o p : Option ℕ) → None ≡ option_map capped o
    → option_map capped (both f (Some s) (both f o p)) ≡ None
none_left f s None p e = refl
none_left f s (Some m) p e = absurd cc

-- so many times
pub many : (k n : ℕ) → 0 < k → capped (k * capped n) ≡ capped (k * n)
many k n h = elim (cases_lt n 65537) [
  | inl lt ↦ let e : capped n ≡ n = omega (arith, lt) in ap (λ (m : ℕ). capped (k * m)) e
  | inr le ↦
      let e : capped n ≡ 65537 = omega (arith, le) in
      let most : k * 65537 ≤ k * n = mul-le-mul_left k le in
      let high : 65537 ≤ k * 65537 = omega (arith, h) in
      let left : capped (k * 65537) ≡ 65537 = omega (arith, high) in
      let right : capped (k * n) ≡ 65537 = omega (arith, high, most) in
      ap (λ (m : ℕ). capped (k * m)) e ∙ left ∙ sym right
]

pub some_small : (b : ℕ) (o : Option ℕ) → Some b ≡ option_map capped o → b ≤ 65537
some_small b None e = absurd cc
some_small b (Some n) e = omega (arith, of_some b (capped n) e)

plus_zero : (o : Option ℕ) → both (λ m n. m + n) (Some 0) o ≡ o
plus_zero None = refl
plus_zero (Some n) = ap Some (omega arith)

max_zero : (o : Option ℕ) → both max (Some 0) o ≡ o
max_zero None = refl
max_zero (Some n) = ap Some (omega arith)

-- ---- a list whose counts are taken together

module _ {X : Type 0} (one : X → Option ℕ) (all : List X → Option ℕ) (f : ℕ → ℕ → ℕ)
    (cons : (x : X) (xs : List X) → all (x ∷ xs) ≡ both f (one x) (all xs)) (xs : List X) (i : ℕ) (x : X) (s : ℕ)
    (lt : i < length xs) (is : x ≡ get_or xs i x) where
  next : option_map capped (both f (Some s) (all (drop i xs)))
      ≡ option_map capped (both f (Some s) (both f (one x) (all (drop (i + 1) xs))))
  next = ap (λ (o : Option ℕ). option_map capped (both f (Some s) o))
      (at_drop_more all xs i x lt ∙ cons (get_or xs i x) (drop (i + 1) xs)
      ∙ ap (λ (y : X). both f (one y) (all (drop (i + 1) xs))) (sym is))

  -- one of them has none
  pub none_here : (total : Option ℕ) → None ≡ option_map capped (one x)
      → option_map capped (both f (Some s) (all (drop i xs))) ≡ total → None ≡ total
  none_here total e was = sym (none_left f s (one x) (all (drop (i + 1) xs)) e) ∙ sym next ∙ was

module _ {X : Type 0} (one : X → Option ℕ) (all : List X → Option ℕ)
    (cons : (x : X) (xs : List X) → all (x ∷ xs) ≡ both (λ m n. m + n) (one x) (all xs)) (xs : List X) (i : ℕ) where
  pub plus_next : (x : X) (s b new : ℕ) (total : Option ℕ) → i < length xs → x ≡ get_or xs i x
      → Some b ≡ option_map capped (one x) → new ≡ capped (b + s)
      → option_map capped (both (λ m n. m + n) (Some s) (all (drop i xs))) ≡ total
      → option_map capped (both (λ m n. m + n) (Some new) (all (drop (i + 1) xs))) ≡ total
  plus_next x s b new total lt is e sum was =
      ap (λ (n : ℕ). option_map capped (both (λ m k. m + k) (Some n) (all (drop (i + 1) xs)))) sum
      ∙ plus_more b s (one x) (all (drop (i + 1) xs)) e ∙ sym (next one all (λ m n. m + n) cons xs i x s lt is) ∙ was

module _ {X : Type 0} (one : X → Option ℕ) (all : List X → Option ℕ)
    (cons : (x : X) (xs : List X) → all (x ∷ xs) ≡ both max (one x) (all xs)) (xs : List X) (i : ℕ) where
  pub max_next : (x : X) (s b new : ℕ) (total : Option ℕ) → i < length xs → x ≡ get_or xs i x
      → Some b ≡ option_map capped (one x) → new ≡ max b s
      → option_map capped (both max (Some s) (all (drop i xs))) ≡ total
      → option_map capped (both max (Some new) (all (drop (i + 1) xs))) ≡ total
  max_next x s b new total lt is e sum was =
      ap (λ (n : ℕ). option_map capped (both max (Some n) (all (drop (i + 1) xs)))) sum
      ∙ max_more b s (one x) (all (drop (i + 1) xs)) e ∙ sym (next one all max cons xs i x s lt is) ∙ was

pub plus_first : {X : Type 0} (all : List X → Option ℕ) (xs : List X)
    → option_map capped (both (λ m n. m + n) (Some 0) (all xs)) ≡ option_map capped (all xs)
plus_first all xs = ap (option_map capped) (plus_zero (all xs))

pub max_first : {X : Type 0} (all : List X → Option ℕ) (xs : List X)
    → option_map capped (both max (Some 0) (all xs)) ≡ option_map capped (all xs)
max_first all xs = ap (option_map capped) (max_zero (all xs))

pub plus_last : {X : Type 0} (all : List X → Option ℕ) (xs : List X) (i s : ℕ) (total : Option ℕ) → all [] ≡ Some 0
    → length xs ≤ i → s ≤ 65537 → option_map capped (both (λ m n. m + n) (Some s) (all (drop i xs))) ≡ total
    → Some s ≡ total
plus_last all xs i s total none le small was =
    ap Some (same s small)
    ∙ sym (ap (λ (o : Option ℕ). option_map capped (both (λ m n. m + n) (Some s) o)) (at_drop_all all xs i le ∙ none))
    ∙ was
  where
    same : (n : ℕ) → n ≤ 65537 → n ≡ capped (n + 0)
    same n h = omega (arith, h)

pub max_last : {X : Type 0} (all : List X → Option ℕ) (xs : List X) (i s : ℕ) (total : Option ℕ) → all [] ≡ Some 0
    → length xs ≤ i → s ≤ 65537 → option_map capped (both max (Some s) (all (drop i xs))) ≡ total
    → Some s ≡ total
max_last all xs i s total none le small was =
    ap Some (same s small)
    ∙ sym (ap (λ (o : Option ℕ). option_map capped (both max (Some s) o)) (at_drop_all all xs i le ∙ none))
    ∙ was
  where
    same : (n : ℕ) → n ≤ 65537 → n ≡ capped (max n 0)
    same n h = omega (arith, h)

-- ---- a union: its tag and its largest arm

pub union_none : (t a d : Option ℕ) → None ≡ option_map capped d
    → None ≡ option_map capped (both (λ m n. m + n) t (both max a d))
union_none t a (Some n) e = absurd cc
union_none None None None e = refl
union_none None (Some n) None e = refl
union_none (Some m) None None e = refl
union_none (Some m) (Some n) None e = refl

pub union_some : (t a d : Option ℕ) (tag most last sum r : ℕ) → Some tag ≡ option_map capped t
    → Some most ≡ option_map capped a → Some last ≡ option_map capped d → sum ≡ min (tag + max most last) (2 ^ 64 - 1)
    → r ≡ capped sum → Some r ≡ option_map capped (both (λ m n. m + n) t (both max a d))
union_some None a d tag most last sum r e f g s h = absurd cc
union_some (Some x) None d tag most last sum r e f g s h = absurd cc
union_some (Some x) (Some y) None tag most last sum r e f g s h = absurd cc
union_some (Some x) (Some y) (Some z) tag most last sum r e f g s h =
    ap Some (sums r sum tag most last x y z h s (of_some tag (capped x) e) (of_some most (capped y) f)
    (of_some last (capped z) g))
  where
    sums : (r sum tag most last x y z : ℕ) → r ≡ capped sum → sum ≡ min (tag + max most last) (2 ^ 64 - 1)
        → tag ≡ capped x → most ≡ capped y → last ≡ capped z → r ≡ capped (x + max y z)
    sums r sum tag most last x y z h s a b d = omega (arith, h, s, a, b, d)
