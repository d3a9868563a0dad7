-- The words that are numbers are those that number_of gives.
use Rattle.std.proofs.Common.{◌≡◌, ℕ, ◌^◌, ◌<◌, Bool, true, false, cond, eqb, List, [], ◌∷◌, get_or, Some, None, refl}
use Rattle.std.proofs.Common.{sym, ap, subst, inl, inr}
use Rattle.std.specs.Bool.{Decides}
use Rattle.std.specs.Str.Parse.{IsNumeral, digits_value}
use Rattle.std.specs.Char.{digit_value}
use Rattle.std.proofs.lemmas.Bool.{ne_eqb, lt-ltb, eqb-true, eqb-false, eq-eqb, false≢true}
use Rattle.xg_lex.specs.Bytes.{zero_digit, hex_mark}
use Rattle.xg_lex.specs.Grammar.{Denotes, IsNumber}
use Rattle.xg_lex.specs.Steps.{is_numeral, numeral, number_of}
use Rattle.xg_lex.proofs.Numbers.{is_numeral_tells}

-- what is written in a radix is its numeral
pub numeral-Denotes : (radix : ℕ) (digits : List ℕ) (n : ℕ) → Denotes radix digits n → numeral radix digits ≡ Some n
unfolding numeral
numeral-Denotes radix digits n w =
    let fits : digits_value radix digits < 2 ^ 64 = subst (λ (m : ℕ). m < 2 ^ 64) w.2 w.1 in
    rw ((is_numeral_tells radix digits).1 (w.0, fits), w.2) refl

-- and nothing else is
pub Denotes_from_numeral : (radix : ℕ) (digits : List ℕ) (n : ℕ) → numeral radix digits ≡ Some n →
    Denotes radix digits n
unfolding numeral
Denotes_from_numeral radix digits n e = by_test (is_numeral radix digits) (is_numeral_tells radix digits) e
  where
    by_test : (t : Bool) → Decides t (IsNumeral radix digits × (digits_value radix digits < 2 ^ 64)) →
        cond t (Some (digits_value radix digits)) None ≡ Some n → Denotes radix digits n
    by_test true d h =
        let same : digits_value radix digits ≡ n = cc in
        let known = d.0 refl in
        (known.0, subst (λ (m : ℕ). m < 2 ^ 64) same known.1, sym same)
    by_test false d h = cc

-- a word that is a number has it
pub number_of-IsNumber : (n : ℕ) (word : List ℕ) → IsNumber n word → number_of word ≡ Some n
unfolding number_of
number_of-IsNumber n word (inl (first, w)) = rw (ne_eqb (get_or word 0 0) zero_digit first)
    (numeral-Denotes 10 word n w)
number_of-IsNumber n word (inr (inl (digits, is, w))) = octal digits is w
  where
    octal : (ds : List ℕ) → word ≡ zero_digit ∷ ds → Denotes 8 word n → number_of word ≡ Some n
    octal [] e h = rw e (numeral-Denotes 8 (zero_digit ∷ []) n (rw e at h))
    octal (d ∷ ds) e h =
        let written : Denotes 8 (zero_digit ∷ d ∷ ds) n = rw e at h in
        let no_mark : eqb d hex_mark ≡ false = ne_eqb d hex_mark (λ s. false≢true
        (lt-ltb 33 8 (subst (λ (c : ℕ). digit_value c < 8) s written.0.1.1.0))) in
        rw (e, no_mark) (numeral-Denotes 8 (zero_digit ∷ d ∷ ds) n written)
number_of-IsNumber n word (inr (inr (digits, is, w))) = rw is (numeral-Denotes 16 digits n w)

by_first : (n : ℕ) (b : ℕ) (bs : List ℕ) (t : Bool) → eqb b zero_digit ≡ t → (number_of (b ∷ bs) ≡ Some n) →
    IsNumber n (b ∷ bs)
unfolding number_of
by_first n b bs false e h = inl (eqb-false b zero_digit e, Denotes_from_numeral 10 (b ∷ bs) n (rw e at h))
by_first n b [] true e h = inr (inl (
  [],
  ap (λ (c : ℕ). c ∷ []) (eqb-true b zero_digit e),
  Denotes_from_numeral 8
      (b ∷ []) n (rw e at h),
))
by_first n b (c ∷ cs) true e h = marked (eqb c hex_mark) refl (rw e at h)
  where
    zero_first : b ≡ zero_digit
    zero_first = eqb-true b zero_digit e

    marked : (t : Bool) → eqb c hex_mark ≡ t →
        cond (eqb c hex_mark) (numeral 16 cs) (numeral 8 (b ∷ c ∷ cs)) ≡ Some n → IsNumber n (b ∷ c ∷ cs)
    marked true m k = inr (inr (
      cs,
      ap (λ (l : List ℕ). l) (rw (← zero_first, ← (eqb-true c hex_mark m)) refl),
      Denotes_from_numeral 16 cs n (rw m at k),
    ))
    marked false m k = inr (inl (
      c ∷ cs,
      ap (λ (a : ℕ). a ∷ c ∷ cs) zero_first,
      Denotes_from_numeral 8 (b ∷ c ∷ cs)
          n (rw m at k),
    ))

-- and a word that has one is it
pub IsNumber_from_number_of : (n : ℕ) (word : List ℕ) → number_of word ≡ Some n → IsNumber n word
unfolding number_of
IsNumber_from_number_of n [] e = inl ((λ z. false≢true (eq-eqb 0 48 z)), Denotes_from_numeral 10 [] n e)
IsNumber_from_number_of n (b ∷ bs) e = by_first n b bs (eqb b zero_digit) refl e
