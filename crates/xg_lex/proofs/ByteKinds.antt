-- Which bytes are of one kind alone.
use Rattle.std.proofs.Common.{◌≡◌, ℕ, true, false, arith}
use Rattle.std.specs.Char.{is_ascii_digit}
use Rattle.std.proofs.lemmas.Bool.Decides.{nat_tests}
use Rattle.xg_lex.specs.Bytes.{is_blank, begins_name, is_sign}

pub name_not_blank : (b : ℕ) → begins_name b ≡ true → is_blank b ≡ false
name_not_blank b e = grind (arith, nat_tests)

pub digit_not_blank : (b : ℕ) → is_ascii_digit b ≡ true → is_blank b ≡ false
digit_not_blank b e = grind (arith, nat_tests)

pub digit_not_name : (b : ℕ) → is_ascii_digit b ≡ true → begins_name b ≡ false
digit_not_name b e = grind (arith, nat_tests)

pub sign_not_name : (b : ℕ) → is_sign b ≡ true → begins_name b ≡ false
sign_not_name b e = grind (arith, nat_tests)

pub sign_not_blank : (b : ℕ) → is_sign b ≡ true → is_blank b ≡ false
sign_not_blank b e = grind (arith, nat_tests)

pub sign_not_digit : (b : ℕ) → is_sign b ≡ true → is_ascii_digit b ≡ false
sign_not_digit b e = grind (arith, nat_tests)
