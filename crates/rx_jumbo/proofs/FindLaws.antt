-- The first number of a range that passes a test, and values of a function over a range.
use Rattle.std.proofs.Common.{◌≡◌, ◌<◌, ◌≤◌, ◌+◌, ◌∷◌, ℕ, zero, suc, Bool, true, false, cond, map, refl, ap, sym}
use Rattle.std.proofs.Common.{Option, Some, arith, slice_get, ◌∙◌, ◌⊎◌, inl, inr, add-zero}
use Rattle.std.proofs.Math.Nat.{eq-or-lt_of_le}
use Rattle.std.proofs.lemmas.Bool.{false≢true}
use Rattle.std.specs.List.{find, range_with_len}

-- `find` gives a number of the range that passes, behind numbers that don't
pub record IsFirst (p : ℕ → Bool) (a n i : ℕ) : Type 0 where
  pub low : a ≤ i
  pub high : i < a + n
  pub passes : p i ≡ true
  pub before : (k : ℕ) → a ≤ k → k < i → p k ≡ false

is_first : (p : ℕ → Bool) (a n i : ℕ) → p a ≡ true → ◌≡◌ {A = Option ℕ} (Some a) (Some i) → IsFirst p a (suc n) i
is_first p a n i here h =
    let same : a ≡ i = cc in
    record {
      low = omega (arith, same);
      high = omega (arith, same);
      passes = ap p (sym same) ∙ here;
      before = λ k low high. absurd (omega (arith, same));
    }

before_by : (p : ℕ → Bool) (a n i k : ℕ) → p a ≡ false → IsFirst p (a + 1) n i → k < i →
    (a ≡ k) ⊎ (a < k) → p k ≡ false
before_by p a n i k here f high (inl same) = ap p (sym same) ∙ here
before_by p a n i k here f high (inr above) = f.before k (omega arith) high

later : (p : ℕ → Bool) (a n i : ℕ) → p a ≡ false → IsFirst p (a + 1) n i → IsFirst p a (suc n) i
later p a n i here f =
    record {
      low = omega (arith, f.low);
      high = omega (arith, f.high);
      passes = f.passes;
      before = λ k low high. before_by p a n i k here f high (eq-or-lt_of_le low);
    }

first_by_test : (t : Bool) (p : ℕ → Bool) (a n i : ℕ) → p a ≡ t →
    ((a i : ℕ) → find p (range_with_len a n) ≡ Some i → IsFirst p a n i) →
    cond t (Some a) (find p (range_with_len (a + 1) n)) ≡ Some i → IsFirst p a (suc n) i
first_by_test true p a n i here rest h = is_first p a n i here h
first_by_test false p a n i here rest h = later p a n i here (rest (a + 1) i h)

-- what `find` gives over a range is the first that passes
pub find_first : (p : ℕ → Bool) (n a i : ℕ) → find p (range_with_len a n) ≡ Some i → IsFirst p a n i
find_first p zero a i h = absurd cc
find_first p (suc n) a i h = first_by_test (p a) p a n i refl (λ b j. find_first p n b j) h

same_by : (p : ℕ → Bool) (a n i : ℕ) → p a ≡ true → IsFirst p a (suc n) i → (a ≡ i) ⊎ (a < i) → a ≡ i
same_by p a n i here f (inl same) = same
same_by p a n i here f (inr above) = absurd (false≢true (sym (f.before a (omega arith) above) ∙ here))

tail_by : (p : ℕ → Bool) (a n i : ℕ) → p a ≡ false → IsFirst p a (suc n) i → (a ≡ i) ⊎ (a < i) →
    IsFirst p (a + 1) n i
tail_by p a n i here f (inl same) = absurd (false≢true (sym here ∙ ap p same ∙ f.passes))
tail_by p a n i here f (inr above) =
    record {
      low = omega (arith, above);
      high = omega (arith, f.high);
      passes = f.passes;
      before = λ k low high. f.before k (omega arith) high;
    }

found_by_test : (t : Bool) (p : ℕ → Bool) (a n i : ℕ) → p a ≡ t → IsFirst p a (suc n) i →
    (IsFirst p (a + 1) n i → find p (range_with_len (a + 1) n) ≡ Some i) →
    cond t (Some a) (find p (range_with_len (a + 1) n)) ≡ Some i
found_by_test true p a n i here f rest = ap (λ (k : ℕ). Some k) (same_by p a n i here f (eq-or-lt_of_le f.low))
found_by_test false p a n i here f rest = rest (tail_by p a n i here f (eq-or-lt_of_le f.low))

-- the first that passes is what `find` gives
pub first_found : (p : ℕ → Bool) (n a i : ℕ) → IsFirst p a n i → find p (range_with_len a n) ≡ Some i
first_found p zero a i f = absurd (omega (arith, f.low, f.high))
first_found p (suc n) a i f = found_by_test (p a) p a n i refl f (λ g. first_found p n (a + 1) i g)

-- the value at a place of a range
pub get_in_range : {X : Type 0} (f : ℕ → X) (n a i : ℕ) → i < n →
    slice_get (map f (range_with_len a n)) i ≡ Some (f (a + i))
get_in_range f zero a i h = absurd (omega arith)
get_in_range f (suc n) a zero h = ap (λ k. Some (f k)) (sym (add-zero a))
get_in_range f (suc n) a (suc i) h =
    let same : a + 1 + i ≡ a + suc i = omega arith in
    get_in_range f n (a + 1) i (omega arith) ∙ ap (λ k. Some (f k)) same

-- two functions that agree on a range
pub same_in_range : {X : Type 0} (f g : ℕ → X) (n a : ℕ) → ((k : ℕ) → a ≤ k → k < a + n → f k ≡ g k) →
    map f (range_with_len a n) ≡ map g (range_with_len a n)
same_in_range f g zero a h = refl
same_in_range f g (suc n) a h =
    let first = h a (omega arith) (omega arith) in
    let rest = same_in_range f g n (a + 1) (λ k low high. h k (omega arith) (omega arith)) in
    λ i. first i ∷ rest i
