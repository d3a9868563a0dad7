-- The first of a book is the least of a list that is made key by key.
use Rattle.std.proofs.Common.{◌≡◌, ◌≤◌, ◌<◌, ℕ, zero, suc, Bool, true, false}
use Rattle.std.proofs.Common.{Option, Some, None, refl, ◌∙◌, ap, sym, subst, arith, if◌then◌else◌}
use Rattle.std.proofs.lemmas.Bool.Decides.{nat_tests}
use Rattle.std.specs.Prelude.{nat_le}
use Rattle.rx_node.specs.Due.{lesser_of}
use Rattle.rx_node.proofs.Steps.TableSteps.{decided}

-- ---- the least of all

module _ {X : Type 0} (rank : X → ℕ) (f g : ℕ → Option X) (all : ℕ) (start : f 0 ≡ None)
    (next : (n : ℕ) → n < all → f (suc n) ≡ lesser_of rank (f n) (g n)) where
  -- there is none where no key has one
  pub none_of_all : ((n : ℕ) → n < all → g n ≡ None) → (n : ℕ) → n ≤ all → f n ≡ None
  none_of_all none zero within = start
  none_of_all none (suc n) within =
      next n within
      ∙ (λ i. lesser_of rank (none_of_all none n (omega (arith, within)) i) (none n within i))

  module _ (key : ℕ) (x : X) (low : key < all) (there : g key ≡ Some x)
      (least : (n : ℕ) (y : X) → n < all → g n ≡ Some y → rank x ≤ rank y)
      (tied : (n : ℕ) (y : X) → n < all → g n ≡ Some y → rank x ≡ rank y → key ≤ n) where
    abbrev Behind : Option X → Type 0
    Behind None = Unit {0}
    Behind (Some y) = rank x < rank y

    strict : (n : ℕ) (y : X) → n < key → g n ≡ Some y → rank x < rank y
    strict n y before is =
        decided (rank x < rank y) (rank x) (rank y)
        (λ same. absurd (let at = tied n y (omega (arith, before, low)) is same in omega (arith, at, before)))
        (λ apart. let at = least n y (omega (arith, before, low)) is in omega (arith, at, apart))

    join : (n : ℕ) → n < key → (a b : Option X) → g n ≡ b → Behind a → Behind (lesser_of rank a b)
    join n before None None is p = tt
    join n before None (Some y) is p = strict n y before is
    join n before (Some a) None is p = p
    join n before (Some a) (Some y) is p = of (nat_le (rank a) (rank y))
      where
        of : (b : Bool) → rank x < rank (if b then a else y)
        of true = p
        of false = strict n y before is

    before-it : (n : ℕ) → n ≤ key → Behind (f n)
    before-it zero within = subst Behind (sym start) tt
    before-it (suc n) within =
        subst Behind (sym (next n (omega (arith, within, low))))
        (join n within (f n) (g n) refl (before-it n (omega (arith, within))))

    meets : (o : Option X) → Behind o → lesser_of rank o (Some x) ≡ Some x
    meets None p = refl
    meets (Some y) p =
        (let not_le : nat_le (rank y) (rank x) ≡ false = grind (arith, nat_tests, p) in
        ap (λ (b : Bool). Some (if b then y else x)) not_le)

    keeps : (n : ℕ) → n < all → (o : Option X) → g n ≡ o → lesser_of rank (Some x) o ≡ Some x
    keeps n within None is = refl
    keeps n within (Some y) is =
        (let at = least n y within is in
        let le : nat_le (rank x) (rank y) ≡ true = grind (arith, nat_tests, at) in
        ap (λ (b : Bool). Some (if b then x else y)) le)

    pub first_of_all : (n : ℕ) → key < n → n ≤ all → f n ≡ Some x
    first_of_all zero past within = absurd (omega (arith, past))
    first_of_all (suc n) past within =
        decided (f (suc n) ≡ Some x) key n
        (λ same. next n within
        ∙ ap (λ (o : Option X). lesser_of rank (f n) o) (ap g (sym same) ∙ there)
        ∙ meets (f n) (subst (λ (k : ℕ). Behind (f k)) same (before-it key (omega (arith)))))
        (λ apart. next n within
        ∙ ap (λ (o : Option X). lesser_of rank o (g n))
        (first_of_all n (omega (arith, past, apart)) (omega (arith, within)))
        ∙ keeps n within (g n) refl)
