-- A text may be cut behind a part.
use Rattle.std.proofs.Common.{◌≡◌, ℕ, ◌+◌, ◌<◌, Bool, true, false, List, [], ◌∷◌, ◌++◌, length, get_or, Ok, refl, sym}
use Rattle.std.proofs.Common.{ap, ◌∙◌, subst, arith, append_assoc, length-append, lit<, inl, inr}
use Rattle.std.specs.List.{prefix_len}
use Rattle.std.specs.Str.{IsUtf8, IsCharBoundary}
use Rattle.std.proofs.lemmas.Str.{IsCharBoundary-end, IsCharBoundary-after_ascii, IsCharBoundary-before_ascii}
use Rattle.std.proofs.lemmas.List.{append-nil}
use Rattle.std.proofs.lemmas.Bool.Decides.{nat_tests}
use Rattle.xg_lex.specs.Bytes.{slash, star, is_blank, is_in_line, is_in_name, is_in_number, is_sign}
use Rattle.xg_lex.specs.Grammar.{Lexeme, blank, comment, skipped, name, number, sign, spelling, CanStand, Stops}
use Rattle.xg_lex.specs.Grammar.{IsSkipped, IsNumber}
use Rattle.xg_lex.specs.Steps.{step_at}
use Rattle.xg_lex.specs.declared.part.Step.{Step}
use Rattle.xg_lex.proofs.Runs.{run_boundary, in_name_is_ascii, in_number_is_ascii}
use Rattle.xg_lex.proofs.RunLaws.{prefix_len-run}
use Rattle.xg_lex.proofs.FoundLaws.{found_part}

get_at : (xs : List ℕ) (c : ℕ) (more : List ℕ) → get_or (xs ++ c ∷ more) (length xs) 0 ≡ c
get_at [] c more = refl
get_at (x ∷ xs) c more = get_at xs c more

behind_ascii : (text xs : List ℕ) (c : ℕ) (more : List ℕ) → text ≡ xs ++ c ∷ more → IsUtf8 text → c < 128 →
    IsCharBoundary text (length xs + 1)
behind_ascii text xs c more e utf8 small =
    IsCharBoundary-after_ascii text (length xs) utf8 (omega (arith, ap length e, length-append xs (c ∷ more)))
    (rw (e, get_at xs c more) small)

blank_is_ascii : (b : ℕ) → is_blank b ≡ true → b < 128
blank_is_ascii b e = grind (arith, nat_tests)

sign_is_ascii : (b : ℕ) → is_sign b ≡ true → b < 128
sign_is_ascii b e = grind (arith, nat_tests)

line_end_is_ascii : (b : ℕ) → is_in_line b ≡ false → b < 128
line_end_is_ascii b e = grind (arith, nat_tests)

behind_line : (text line more : List ℕ) → text ≡ line ++ more → Stops is_in_line more →
    IsCharBoundary text (length line)
behind_line text line [] e stops = rw (e, append-nil line) (IsCharBoundary-end line)
behind_line text line (b ∷ bs) e stops =
    IsCharBoundary-before_ascii text (length line) (omega (arith, ap length e, length-append line (b ∷ bs)))
    (rw (e, get_at line b bs) (line_end_is_ascii b stops))

behind_run : (test : ℕ → Bool) → ((b : ℕ) → test b ≡ true → b < 128) → (text run more : List ℕ) →
    text ≡ run ++ more → prefix_len test (run ++ more) ≡ length run → IsUtf8 text → IsCharBoundary text (length run)
behind_run test ascii text run more e len utf8 =
    subst (IsCharBoundary text) (ap (prefix_len test) e ∙ len) (run_boundary test ascii text utf8)

behind_part : (starts : Bool) (p : Lexeme) (text more : List ℕ) → text ≡ spelling p ++ more → IsUtf8 text →
    CanStand starts p more → IsCharBoundary text (length (spelling p))
behind_part starts (blank b) text more e utf8 h = behind_ascii text [] b more e utf8 (blank_is_ascii b h)
behind_part starts (comment body) text more e utf8 h =
    let regrouped : text ≡ (slash ∷ star ∷ (body ++ star ∷ [])) ++ slash ∷ more =
    e ∙ ap (λ (ds : List ℕ). slash ∷ star ∷ ds) (append_assoc body (star ∷ slash ∷ []) more ∙ sym
    (append_assoc body (star ∷ []) (slash ∷ more))) in
    let len : length (slash ∷ star ∷ (body ++ star ∷ [])) + 1 ≡ length (spelling (comment body)) =
    omega (arith, length-append body (star ∷ []), length-append body (star ∷ slash ∷ [])) in
    subst (IsCharBoundary text) len (behind_ascii text (slash ∷ star ∷ (body ++ star ∷ [])) slash more regrouped
    utf8 (lit< tt))
behind_part starts (skipped line) text more e utf8 h = behind_line text line more e h.3
behind_part starts (name run) text more e utf8 h =
    behind_run is_in_name in_name_is_ascii text run more e (prefix_len-run is_in_name run more h.0.1.1 h.1) utf8
behind_part starts (number n run) text more e utf8 h =
    behind_run is_in_number in_number_is_ascii text run more e (prefix_len-run is_in_number run more h.1 h.2) utf8
behind_part starts (sign b) text more e utf8 h = behind_ascii text [] b more e utf8 (sign_is_ascii b h)

skipped_some : (text : List ℕ) → IsSkipped text → 0 < length text
skipped_some text (inl (rest, e)) = omega (arith, ap length e)
skipped_some text (inr mark) = omega (arith, ap length mark.whole)

number_some : (n : ℕ) (text : List ℕ) → IsNumber n text → 0 < length text
number_some n text (inl (first, w)) = w.0.0
number_some n text (inr (inl (digits, is, w))) = w.0.0
number_some n text (inr (inr (digits, is, w))) = omega (arith, ap length is)

spelled_some : (starts : Bool) (p : Lexeme) (more : List ℕ) → CanStand starts p more → 0 < length (spelling p)
spelled_some starts (blank b) more h = omega arith
spelled_some starts (comment body) more h = omega arith
spelled_some starts (skipped text) more h = skipped_some text h.1
spelled_some starts (name text) more h = h.0.1.0
spelled_some starts (number n text) more h = number_some n text h.0
spelled_some starts (sign b) more h = omega arith

pub step_boundary : (starts : Bool) (text : List ℕ) (s : Step) → IsUtf8 text → step_at starts text ≡ Ok s →
    IsCharBoundary text s.len
step_boundary starts text s utf8 e =
    let f = found_part starts text s e in
    subst (IsCharBoundary text) (sym (ap (λ (t : Step). t.len) f.is))
    (behind_part starts f.part text f.more f.whole utf8 f.stands)

-- and it has a byte at least
pub step_some : (starts : Bool) (text : List ℕ) (s : Step) → step_at starts text ≡ Ok s → 0 < s.len
step_some starts text s e =
    let f = found_part starts text s e in
    let len : s.len ≡ length (spelling f.part) = ap (λ (t : Step). t.len) f.is in
    omega (arith, len, spelled_some starts f.part f.more f.stands)
