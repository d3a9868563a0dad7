-- The numbers that words write.
use Rattle.std.proofs.Common.{◌≡◌, ℕ, ◌^◌, ◌<◌, Bool, true, false, cond, ltb, List, [], ◌∷◌, length, Some, None, Result}
use Rattle.std.proofs.Common.{Ok, Err, refl, ap, subst}
use Rattle.std.specs.Bool.{Decides}
use Rattle.std.specs.Result.{result_ok, OkIff}
use Rattle.std.specs.List.{list_all}
use Rattle.std.specs.Str.Parse.{IsNumeral, AllDigits, digits_value, ParsesUnsigned, without_leading_plus}
use Rattle.std.specs.Char.{digit_value}
use Rattle.std.proofs.lemmas.Bool.{ne_eqb, and_parts, false≢true}
use Rattle.std.proofs.lemmas.Bool.Decides.{Decides-and, Decides-ltb}
use Rattle.xg_lex.specs.Bytes.{is_in_number}
use Rattle.xg_lex.specs.Grammar.{AllOf}
use Rattle.xg_lex.specs.Steps.{is_numeral, numeral}

all_digits : (radix : ℕ) (digits : List ℕ) →
    Decides (list_all (λ c. ltb (digit_value c) radix) digits) (AllDigits radix digits)
all_digits radix [] = ((λ e. tt), (λ h. refl))
all_digits radix (c ∷ cs) = Decides-and (ltb (digit_value c) radix) (list_all (λ c. ltb (digit_value c) radix) cs)
    (Decides-ltb (digit_value c) radix) (all_digits radix cs)

-- the test tells whether the digits write a number of at most 64 bits
pub is_numeral_tells : (radix : ℕ) (digits : List ℕ) →
    Decides (is_numeral radix digits) (IsNumeral radix digits × (digits_value radix digits < 2 ^ 64))
is_numeral_tells radix digits =
    Decides-and _ _ (Decides-and (ltb 0 (length digits)) _ (Decides-ltb 0 (length digits)) (all_digits radix digits))
    (Decides-ltb (digits_value radix digits) (2 ^ 64))

tested : {P E : Type 0} (b : Bool) → Decides b P → (r : Result ℕ E) (v : ℕ) → OkIff r P v →
    result_ok r ≡ cond b (Some v) None
tested true d (Ok x) v h = ap Some h.1
tested true d (Err e) v h = absurd (h (d.0 refl))
tested false d (Ok x) v h = absurd (false≢true (d.1 h.0))
tested false d (Err e) v h = refl

no_plus : (digits : List ℕ) → AllOf is_in_number digits → without_leading_plus digits ≡ digits
no_plus [] letters = refl
no_plus (c ∷ cs) letters =
    rw (ne_eqb c 43 (λ e. false≢true (subst (λ (b : ℕ). is_in_number b ≡ true) e
    (and_parts (is_in_number c) (list_all is_in_number cs) letters).0))) refl

-- what std reads is the number that the digits write
pub numeral_parsed : {E : Type 0} (radix : ℕ) (digits : List ℕ) (r : Result ℕ E) → AllOf is_in_number digits →
    ParsesUnsigned 64 radix digits r → result_ok r ≡ numeral radix digits
unfolding numeral
numeral_parsed {E} radix digits r letters parsed =
    tested (is_numeral radix digits) (is_numeral_tells radix digits) r (digits_value radix digits)
    (subst (λ (ds : List ℕ). OkIff r (IsNumeral radix ds × (digits_value radix ds < 2 ^ 64))
    (digits_value radix ds)) (no_plus digits letters) parsed)
