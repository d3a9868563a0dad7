-- The part at the front of a text is the one that can stand there.
use Rattle.std.proofs.Common.{◌≡◌, ℕ, ◌<◌, Bool, true, List, [], ◌∷◌, ◌++◌, length, drop, Option, Some, None, Ok, refl}
use Rattle.std.proofs.Common.{ap, ◌∙◌, arith, inl, inr, append_assoc, length-append}
use Rattle.std.specs.Char.{is_ascii_digit, digit_value}
use Rattle.std.proofs.lemmas.Bool.{cond-true}
use Rattle.std.proofs.lemmas.Bool.Decides.{nat_tests}
use Rattle.xg_lex.specs.Bytes.{hash, percent, star, slash, zero_digit, is_blank, is_in_line, is_in_name, is_in_number}
use Rattle.xg_lex.specs.Bytes.{is_sign}
use Rattle.xg_lex.specs.Grammar.{Lexeme, blank, comment, skipped, name, number, sign, spelling, CanStand, Stops, AllOf}
use Rattle.xg_lex.specs.Grammar.{IsName, IsNumber, IsSkipped, IsLineMark}
use Rattle.xg_lex.specs.Steps.{gap_step, number_step, mark_step, is_mark_rest, sign_or_comment, step_at}
use Rattle.xg_lex.specs.declared.token.TokenKind.{TokenKind}
use Rattle.xg_lex.specs.declared.token.TokenKind.TheVariants as kinds
use Rattle.xg_lex.specs.declared.part.Step.{Step}
use Rattle.xg_lex.proofs.ByteKinds.{name_not_blank, digit_not_blank, digit_not_name, sign_not_name, sign_not_blank}
use Rattle.xg_lex.proofs.ByteKinds.{sign_not_digit}
use Rattle.xg_lex.proofs.RunLaws.{prefix_len-run, take-front}
use Rattle.xg_lex.proofs.NumberLaws.{number_of-IsNumber}
use Rattle.xg_lex.proofs.CloseLaws.{close_len-body}
use Rattle.xg_lex.proofs.MarkLaws.{is_mark_rest-mark}

-- which token a part is
abbrev pub kind_of : Lexeme → Option TokenKind
kind_of (blank b) = None
kind_of (comment body) = None
kind_of (skipped text) = None
kind_of (name text) = Some kinds.Name
kind_of (number n text) = Some (kinds.Number n)
kind_of (sign b) = Some kinds.Sign

abbrev pub step_of : Lexeme → Step
step_of p = record { len = length (spelling p); kind = kind_of p }

-- ---- what can stand there is found

digit_from_value : (b : ℕ) → digit_value b < 10 → is_ascii_digit b ≡ true
digit_from_value b h = grind (arith, nat_tests)

number_begins : (n b : ℕ) (bs : List ℕ) → IsNumber n (b ∷ bs) → is_ascii_digit b ≡ true
number_begins n b bs (inl (first, w)) = digit_from_value b w.0.1.0
number_begins n b bs (inr (inl (digits, is, w))) = let e : b ≡ zero_digit = cc in rw e refl
number_begins n b bs (inr (inr (digits, is, w))) = let e : b ≡ zero_digit = cc in rw e refl

empty_is_none : (n : ℕ) → IsNumber n [] → ⊥
empty_is_none n (inl (first, w)) = omega (arith, w.0.0)
empty_is_none n (inr (inl (digits, is, w))) = cc
empty_is_none n (inr (inr (digits, is, w))) = cc

found_name : (starts : Bool) (text more : List ℕ) → IsName text → Stops is_in_name more →
    step_at starts (text ++ more) ≡ Ok (step_of (name text))
unfolding step_at
found_name starts [] more is stops = absurd (omega (arith, is.1.0))
found_name starts (b ∷ bs) more is stops =
    rw (name_not_blank b is.0, is.0, prefix_len-run is_in_name (b ∷ bs) more is.1.1 stops) refl

number_step-run : (n : ℕ) (text more : List ℕ) → IsNumber n text → AllOf is_in_number text →
    Stops is_in_number more → number_step (text ++ more) ≡ Ok (step_of (number n text))
number_step-run n text more is passes stops =
    rw (prefix_len-run is_in_number text more passes stops, take-front text more, number_of-IsNumber n text is) refl

found_number : (starts : Bool) (n : ℕ) (text more : List ℕ) → IsNumber n text → AllOf is_in_number text →
    Stops is_in_number more → step_at starts (text ++ more) ≡ Ok (step_of (number n text))
unfolding step_at
found_number starts n [] more is passes stops = absurd (empty_is_none n is)
found_number starts n (b ∷ bs) more is passes stops =
    let first = number_begins n b bs is in
    rw (digit_not_blank b first, digit_not_name b first)
    (cond-true (is_ascii_digit b) (number_step (b ∷ (bs ++ more))) (sign_or_comment starts b (b ∷ (bs ++ more))) first
    ∙ number_step-run n (b ∷ bs) more is passes stops)

found_sign : (starts : Bool) (b : ℕ) (more : List ℕ) → is_sign b ≡ true →
    step_at starts (b ∷ more) ≡ Ok (step_of (sign b))
unfolding step_at
found_sign starts b more is = rw (sign_not_blank b is, sign_not_name b is, sign_not_digit b is, is) refl

found_blank : (starts : Bool) (b : ℕ) (more : List ℕ) → is_blank b ≡ true →
    step_at starts (b ∷ more) ≡ Ok (step_of (blank b))
unfolding step_at
found_blank starts b more is = rw is refl

found_comment : (starts : Bool) (body more : List ℕ) → CanStand starts (comment body) more →
    step_at starts (slash ∷ star ∷ (body ++ star ∷ slash ∷ more)) ≡ Ok (step_of (comment body))
unfolding step_at
found_comment starts body more apart =
    rw (close_len-body body more apart) (ap (λ (n : ℕ). gap_step n)
    (omega (arith, length-append body (star ∷ slash ∷ []))))

found_percent : (rest more : List ℕ) → AllOf is_in_line (percent ∷ rest) → Stops is_in_line more →
    step_at true (percent ∷ (rest ++ more)) ≡ Ok (step_of (skipped (percent ∷ rest)))
unfolding step_at
found_percent rest more passes stops = ap (λ (n : ℕ). gap_step n) (prefix_len-run is_in_line (percent ∷ rest) more
    passes stops)

mark_step-run : (text more : List ℕ) → is_mark_rest (drop 1 text) ≡ true → AllOf is_in_line text →
    Stops is_in_line more → mark_step (text ++ more) ≡ Ok (step_of (skipped text))
mark_step-run text more mark passes stops = rw (
  prefix_len-run is_in_line text more passes stops,
  take-front text
      more,
  mark,
) refl

found_mark : (rest more : List ℕ) → IsLineMark (hash ∷ rest) → AllOf is_in_line (hash ∷ rest) →
    Stops is_in_line more → step_at true (hash ∷ (rest ++ more)) ≡ Ok (step_of (skipped (hash ∷ rest)))
unfolding step_at
found_mark rest more mark passes stops = mark_step-run (hash ∷ rest) more (is_mark_rest-mark rest mark) passes stops

found_skipped : (text more : List ℕ) → IsSkipped text → AllOf is_in_line text → Stops is_in_line more →
    step_at true (text ++ more) ≡ Ok (step_of (skipped text))
found_skipped text more (inl (rest, e)) passes stops = rw e (found_percent rest more (rw e at passes) stops)
found_skipped text more (inr mark) passes stops =
    rw mark.whole (found_mark _ more (rw mark.whole at mark) (rw mark.whole at passes) stops)

respaced : (body more : List ℕ) → spelling (comment body) ++ more ≡ slash ∷ star ∷ (body ++ star ∷ slash ∷ more)
respaced body more = ap (λ (ds : List ℕ). slash ∷ star ∷ ds) (append_assoc body (star ∷ slash ∷ []) more)

-- a part that can stand there is found
pub step_at-part : (starts : Bool) (p : Lexeme) (more : List ℕ) → CanStand starts p more →
    step_at starts (spelling p ++ more) ≡ Ok (step_of p)
step_at-part starts (blank b) more h = found_blank starts b more h
step_at-part starts (comment body) more h = ap (step_at starts) (respaced body more) ∙ found_comment starts body more h
step_at-part starts (skipped text) more h = rw h.0 (found_skipped text more h.1 h.2 h.3)
step_at-part starts (name text) more h = found_name starts text more h.0 h.1
step_at-part starts (number n text) more h = found_number starts n text more h.0 h.1 h.2
step_at-part starts (sign b) more h = found_sign starts b more h
