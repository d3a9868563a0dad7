-- Numbers in decimal.
use Rattle.std.proofs.Common.{◌≡◌, ℕ, ◌<◌, ◌≤◌, ◌^◌, ◌==◌, not, true, false, List, length, None}
use Rattle.std.proofs.Common.{Result, Ok, Err, refl, inl, inr, arith, rules, nat_le}
use Rattle.std.proofs.lemmas.Bool.{and_parts, and_right, lt-leb, cases_lt, eqb-false, not-true}
use Rattle.std.proofs.lemmas.Str.Parse.{IsNumeralModel, numerals_by_value, parse_digits}
use Rattle.std.specs.Char.{is_ascii_digit}
use Rattle.std.specs.List.{list_all}
use Rattle.std.specs.Result.{result_ok}
use Rattle.std.specs.Str.Parse.{ParsesUnsigned, digits_value}
use Rattle.rx_words.specs.Numbers.{is_decimal, number_within}

own : IsNumeralModel (λ ds. list_all is_ascii_digit ds ≡ true) (digits_value 10)
own = numerals_by_value _ (search rules)

absurd_below : (w n : ℕ) → ¬ (n < 2 ^ w) → 2 ^ w ≤ n
absurd_below w n above = elim (cases_lt n (2 ^ w)) [ inl below ↦ absurd (above below) | inr large ↦ large ]

-- digits that `parse` can't hold are out of range
pub number_within_unread : {E : Type 0} (w low high : ℕ) (word : List ℕ) (r : Result ℕ E) → is_decimal word ≡ true
    → high < 2 ^ w
    → ParsesUnsigned w 10 word r → result_ok r ≡ None → number_within low high word ≡ None
number_within_unread w low high word (Ok n) decimal bound parsed none = cc
number_within_unread w low high word (Err e) decimal bound parsed none =
    let (filled, digits) = and_parts (not (length word == 0)) (list_all is_ascii_digit word) decimal in
    let full : (length word == 0) ≡ false = not-true (length word == 0) filled in
    let some : 0 < length word = omega (arith, eqb-false (length word) 0 full) in
    let number = digits_value 10 word in
    let unread : ¬ ((0 < length word) × (number < 2 ^ w)) = parse_digits own w word (Err e) parsed digits in
    let large : 2 ^ w ≤ number = absurd_below w number (λ small. unread (some, small)) in
    let above : nat_le number high ≡ false = lt-leb number high (omega (arith, large)) in
    rw (decimal, above, and_right (nat_le low number) false refl) refl
