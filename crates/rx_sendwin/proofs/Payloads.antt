-- The pieces of what was said, as the bytes grow.
use Rattle.std.proofs.Common.{◌≡◌, inl, inr, ◌<◌, ◌≤◌, ◌+◌, ◌*◌, ℕ, suc, zero}
use Rattle.std.proofs.Common.{List, [], ◌∷◌, ◌++◌, length, get_or, set, take, drop, refl, sym, ap, ◌∙◌, arith}
use Rattle.std.proofs.Common.{length-append, Option, None}
use Rattle.std.proofs.lemmas.Bool.{cases_order, cases_lt}
use Rattle.std.proofs.lemmas.List.{length-drop, drop-append-le, take-append-le, take_all, drop_all}
use Rattle.std.proofs.lemmas.List.{get_or-set_same, get_or-set_other, get_or_append_left, get_or_push, get_or_past}
use Rattle.std.proofs.lemmas.List.{length_push}
use Rattle.rx_rules.specs.Sent.{payload_at}

none : (X : Type 0) (n : ℕ) → take {A = X} n [] ≡ []
none X zero = refl
none X (suc n) = refl

pub take_join : {X : Type 0} (xs : List X) (a n : ℕ) → take a xs ++ take n (drop a xs) ≡ take (a + n) xs
take_join xs zero n = ap (λ m. take m xs) (omega arith)
take_join {X} [] (suc a) n = none X n ∙ sym (none X (suc a + n))
take_join (x ∷ xs) (suc a) n =
    let is : suc a + n ≡ suc (a + n) = omega arith in
    ap (λ ys. x ∷ ys) (take_join xs a n) ∙ ap (λ m. take m (x ∷ xs)) (sym is)

-- a full piece stays, whatever is said after it
pub piece_stays : (said more : List ℕ) (k : ℕ) → 1412 * suc k ≤ length said →
    payload_at (said ++ more) (suc k) ≡ payload_at said (suc k)
piece_stays said more k full =
    ap (take 1412) (drop-append-le (1412 * k) said more (omega (arith, full)))
    ∙ take-append-le 1412 (drop (1412 * k) said) more (omega (arith, full, length-drop (1412 * k) said))

-- what fits into the filling piece goes to its end
pub piece_grows : (said more : List ℕ) (k : ℕ) → 1412 * k ≤ length said → length said + length more ≤ 1412 * suc k →
    payload_at (said ++ more) (suc k) ≡ payload_at said (suc k) ++ more
piece_grows said more k from fits =
    let rest = drop (1412 * k) said in
    let size = length-drop (1412 * k) said in
    ap (take 1412) (drop-append-le (1412 * k) said more from)
    ∙ take_all 1412 (rest ++ more) (omega (arith, fits, size, length-append rest more))
    ∙ ap (λ p. p ++ more) (sym (take_all 1412 rest (omega (arith, fits, size))))

-- past the end there is nothing
pub piece_past : (said : List ℕ) (k : ℕ) → length said ≤ 1412 * k → payload_at said (suc k) ≡ []
piece_past said k past = ap (take 1412) (drop_all (1412 * k) said past) ∙ none ℕ 1412

-- a new piece comes behind those that are full
pub pushed : (pieces after : List (List ℕ)) (said chunk : List ℕ) (acked : ℕ) → after ≡ pieces ++ chunk ∷ [] →
    length said ≡ 1412 * (acked + length pieces) → length chunk ≤ 1412 →
    ((i : ℕ) → get_or pieces i [] ≡ payload_at said (suc (acked + i)))
    → (i : ℕ) → get_or after i [] ≡ payload_at (said ++ chunk) (suc (acked + i))
pushed pieces after said chunk acked is full fits old i =
    ap (λ ps. get_or ps i []) is
    ∙ (elim (cases_order (length pieces) i) as (λ _. get_or (pieces ++ chunk ∷ []) i []
    ≡ payload_at (said ++ chunk) (suc (acked + i))) [
      | inl e ↦ (
          let at : length said ≡ 1412 * (acked + i) = omega (arith, e, full) in
          get_or_push pieces chunk [] i e
          ∙ sym (piece_grows said chunk (acked + i) (omega (arith, at)) (omega (arith, at, fits))
          ∙ ap (λ p. p ++ chunk) (piece_past said (acked + i) (omega (arith, at)))))
      | inr apart ↦ (elim apart as (λ _. get_or (pieces ++ chunk ∷ []) i []
          ≡ payload_at (said ++ chunk) (suc (acked + i))) [
            | inl lt ↦ get_or_past (pieces ++ chunk ∷ []) i [] (omega (arith, lt, length_push pieces chunk))
                ∙ sym (piece_past (said ++ chunk) (acked + i) (omega (arith, lt, full, fits, length-append said chunk)))
            | inr gt ↦ get_or_append_left pieces (chunk ∷ []) [] i gt ∙ old i
                ∙ sym (piece_stays said chunk (acked + i) (omega (arith, gt, full)))
          ])
    ])

-- the last piece is filled
pub filled : (pieces after : List (List ℕ)) (said chunk : List ℕ) (acked place : ℕ) →
    after ≡ set pieces place (get_or pieces place [] ++ chunk) → place < length pieces →
    1412 * (acked + place) ≤ length said → length said + length chunk ≤ 1412 * suc (acked + place)
    → ((i : ℕ) → get_or pieces i [] ≡ payload_at said (suc (acked + i))) → (i : ℕ) → get_or after i []
    ≡ payload_at (said ++ chunk) (suc (acked + i))
filled pieces after said chunk acked place is within from fits old i =
    ap (λ ps. get_or ps i []) is
    ∙ (elim (cases_order place i) as (λ _. get_or (set pieces place (get_or pieces place [] ++ chunk)) i []
    ≡ payload_at (said ++ chunk) (suc (acked + i))) [
      | inl e ↦ ap (λ j. get_or (set pieces place (get_or pieces place [] ++ chunk)) j []) (sym e)
          ∙ get_or-set_same pieces place (get_or pieces place [] ++ chunk) [] within
          ∙ ap (λ p. p ++ chunk) (old place) ∙ sym (piece_grows said chunk (acked + place) from fits)
          ∙ ap (λ j. payload_at (said ++ chunk) (suc (acked + j))) e
      | inr apart ↦ (elim apart as (λ _. get_or (set pieces place (get_or pieces place [] ++ chunk)) i []
          ≡ payload_at (said ++ chunk) (suc (acked + i))) [
            | inl lt ↦ get_or-set_other pieces place i (get_or pieces place [] ++ chunk) [] (λ e. omega (arith, e, lt))
                ∙ old i
                ∙ (elim (cases_lt (length said) (1412 * (acked + i) + 1)) as (λ _. payload_at said (suc (acked + i))
                ≡ payload_at (said ++ chunk) (suc (acked + i))) [
                  | inl few ↦ piece_past said (acked + i) (omega (arith, few))
                      ∙ sym (piece_past (said ++ chunk) (acked + i) (omega (arith, lt, fits, length-append said chunk)))
                  | inr many ↦ absurd (omega (arith, many, lt, fits))
                ])
            | inr gt ↦ get_or-set_other pieces place i (get_or pieces place [] ++ chunk) [] (λ e. omega (arith, e, gt))
                ∙ old i ∙ sym (piece_stays said chunk (acked + i) (omega (arith, gt, from)))
          ])
    ])

pub none_behind : {X : Type 0} (xs after : List (Option X)) (i : ℕ) → after ≡ xs ++ None ∷ [] →
    get_or after i None ≡ get_or xs i None
none_behind [] after zero is = ap (λ ys. get_or ys 0 None) is
none_behind [] after (suc i) is = ap (λ ys. get_or ys (suc i) None) is
none_behind (x ∷ xs) after zero is = ap (λ ys. get_or ys 0 None) is
none_behind (x ∷ xs) after (suc i) is = ap (λ ys. get_or ys (suc i) None) is ∙ none_behind xs (xs ++ None ∷ []) i refl
