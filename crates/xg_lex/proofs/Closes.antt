-- Where a comment ends.
use Rattle.std.proofs.Common.{◌≡◌, ℕ, suc, ◌+◌, ◌-◌, ◌<◌, ◌≤◌, Bool, true, false, cond, ◌&&◌, eqb, List, [], ◌∷◌}
use Rattle.std.proofs.Common.{length, get_or, drop, Option, Some, None, option_map, refl, sym, ap, ◌∙◌, arith}
use Rattle.std.proofs.Common.{drop-cons, add-one, length-drop, zero}
use Rattle.std.proofs.lemmas.Bool.{and_right, and_from, and_parts, eqb-true, eq-eqb, false_from_ne_true}
use Rattle.xg_lex.specs.Bytes.{star, slash}
use Rattle.xg_lex.specs.Steps.{close_len, begins_with}

pub close_len-cons : (b : ℕ) (bs : List ℕ) →
    close_len (b ∷ bs) ≡ cond (eqb b star && begins_with slash bs) (Some 2) (option_map (λ n. 1 + n) (close_len bs))
unfolding close_len
close_len-cons b bs = refl

close_len-two : (a b : ℕ) (bs : List ℕ) (t : Bool) → (eqb a star && eqb b slash) ≡ t →
    close_len (a ∷ b ∷ bs) ≡ cond t (Some 2) (option_map (λ n. 1 + n) (close_len (b ∷ bs)))
close_len-two a b bs t e = rw (close_len-cons a (b ∷ bs), e) refl

-- two bytes stand there
two_there : (bs : List ℕ) (k : ℕ) → k + 1 < length bs →
    drop k bs ≡ get_or bs k 0 ∷ get_or bs (k + 1) 0 ∷ drop (k + 1 + 1) bs
two_there bs k within =
    let here : k < length bs = omega arith in
    drop-cons bs k 0 here ∙ ap (λ (ds : List ℕ). get_or bs k 0 ∷ ds)
    (rw (← add-one k) (drop-cons bs (k + 1) 0 within ∙ rw (add-one (k + 1)) refl))

after_one : (bs : List ℕ) (k : ℕ) → k + 1 < length bs → drop (k + 1) bs ≡ get_or bs (k + 1) 0 ∷ drop (k + 1 + 1) bs
after_one bs k within = drop-cons bs (k + 1) 0 within ∙ rw (add-one (k + 1)) refl

-- it ends there
pub close_here : (bs : List ℕ) (k : ℕ) → k + 1 < length bs →
    (eqb (get_or bs k 0) star && eqb (get_or bs (k + 1) 0) slash) ≡ true → close_len (drop k bs) ≡ Some 2
close_here bs k within e = rw (two_there bs k within) (close_len-two _ _ _ true e)

-- it ends further on
pub close_later : (bs : List ℕ) (k : ℕ) → k + 1 < length bs →
    (eqb (get_or bs k 0) star && eqb (get_or bs (k + 1) 0) slash) ≡ false → close_len (drop k bs) ≡ option_map
    (λ n. 1 + n) (close_len (drop (k + 1) bs))
close_later bs k within e = rw (two_there bs k within, after_one bs k within) (close_len-two _ _ _ false e)

short_has_none : (bs : List ℕ) → length bs ≤ 1 → close_len bs ≡ None
unfolding close_len
short_has_none [] h = refl
short_has_none (b ∷ []) h = rw (and_right (eqb b star) false refl) refl
short_has_none (a ∷ b ∷ bs) h = absurd (omega arith)

shifted : (k : ℕ) (o : Option ℕ) → option_map (λ n. k + n) (option_map (λ n. 1 + n) o) ≡ option_map (λ n. (k + 1) + n) o
shifted k None = refl
shifted k (Some n) = ap Some (omega arith)

-- no byte on, where it doesn't end there
pub close_more : (bs : List ℕ) (i : ℕ) → 0 < i → i < length bs → (get_or bs (i - 1) 0 ≡ star →
    get_or bs i 0 ≡ slash → ⊥) → close_len bs ≡ option_map (λ n. (i - 1) + n) (close_len (drop (i - 1) bs)) →
    close_len bs ≡ option_map (λ n. (i + 1 - 1) + n) (close_len (drop (i + 1 - 1) bs))
close_more bs zero low high apart so_far = absurd (omega arith)
close_more bs (suc k) low high apart so_far =
    let before : suc k - 1 ≡ k = omega arith in
    let now : suc k + 1 - 1 ≡ k + 1 = omega arith in
    let one : suc k ≡ k + 1 = omega arith in
    let within : k + 1 < length bs = omega arith in
    let no : (eqb (get_or bs k 0) star && eqb (get_or bs (k + 1) 0) slash) ≡ false =
    false_from_ne_true _ (λ t. let parts = and_parts (eqb (get_or bs k 0) star) (eqb (get_or bs (k + 1) 0) slash) t in
    rw (before, one) at apart (eqb-true _ _ parts.0) (eqb-true _ _ parts.1)) in
    rw (now) ((rw before at so_far) ∙ rw (close_later bs k within no) (shifted k (close_len (drop (k + 1) bs))))

pub close_found : (bs : List ℕ) (i : ℕ) → 0 < i → i < length bs → get_or bs (i - 1) 0 ≡ star →
    get_or bs i 0 ≡ slash → close_len bs ≡ option_map (λ n. (i - 1) + n) (close_len (drop (i - 1) bs)) → Some
    (i + 1) ≡ close_len bs
close_found bs zero low high a b so_far = absurd (omega arith)
close_found bs (suc k) low high a b so_far =
    let before : suc k - 1 ≡ k = omega arith in
    let one : suc k ≡ k + 1 = omega arith in
    let within : k + 1 < length bs = omega arith in
    let yes : (eqb (get_or bs k 0) star && eqb (get_or bs (k + 1) 0) slash) ≡ true =
    and_from _ _ (eq-eqb _ _ (rw before at a)) (eq-eqb _ _ (rw one at b)) in
    let at_end : option_map (λ n. k + n) (close_len (drop k bs)) ≡ Some (k + 2) = rw (close_here bs k within yes)
    refl in
    let sum : suc k + 1 ≡ k + 2 = omega arith in
    rw sum (sym ((rw before at so_far) ∙ at_end))

pub close_none : (bs : List ℕ) (i : ℕ) → 0 < i → length bs ≤ i →
    close_len bs ≡ option_map (λ n. (i - 1) + n) (close_len (drop (i - 1) bs)) → None ≡ close_len bs
close_none bs i low high so_far =
    let short : length (drop (i - 1) bs) ≤ 1 = omega (arith, length-drop (i - 1) bs) in
    sym (so_far ∙ rw (short_has_none (drop (i - 1) bs) short) refl)
