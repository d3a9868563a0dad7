-- A comment ends at the first `*/`.
use Rattle.std.proofs.Common.{◌≡◌, ℕ, ◌+◌, Bool, true, false, cond, ◌&&◌, eqb, List, [], ◌∷◌, ◌++◌, length, Option}
use Rattle.std.proofs.Common.{Some, None, option_map, refl, sym, ap, ◌∙◌, arith}
use Rattle.std.proofs.lemmas.Bool.{and_right, and_parts, eqb-true, false_from_ne_true, false≢true}
use Rattle.xg_lex.specs.Bytes.{star, slash}
use Rattle.xg_lex.specs.Grammar.{HasNoClose}
use Rattle.xg_lex.specs.Steps.{close_len, begins_with}
use Rattle.xg_lex.proofs.Closes.{close_len-cons}

not_yet : (a : ℕ) (bs more : List ℕ) → HasNoClose (a ∷ bs) →
    (eqb a star && begins_with slash (bs ++ star ∷ slash ∷ more)) ≡ false
not_yet a [] more apart = and_right (eqb a star) false refl
not_yet a (b ∷ bs) more apart =
    false_from_ne_true _ (λ t.
    let parts = and_parts (eqb a star) (eqb b slash) t in
    apart [] bs (rw (← (eqb-true a star parts.0), ← (eqb-true b slash parts.1)) refl))

inner : (a : ℕ) (bs : List ℕ) → HasNoClose (a ∷ bs) → HasNoClose bs
inner a bs apart = λ before after e. apart (a ∷ before) after (ap (λ (ds : List ℕ). a ∷ ds) e)

-- what ends a comment is found
pub close_len-body : (body more : List ℕ) → HasNoClose body →
    close_len (body ++ star ∷ slash ∷ more) ≡ Some (length body + 2)
close_len-body [] more apart = close_len-cons star (slash ∷ more)
close_len-body (a ∷ bs) more apart =
    close_len-cons a (bs ++ star ∷ slash ∷ more)
    ∙ rw (not_yet a bs more apart, close_len-body bs more (inner a bs apart)) (ap Some (omega arith))

-- the bytes are a body, its end, and more
pub record Closed (bytes : List ℕ) (n : ℕ) : Type 0 where
  pub body : List ℕ
  pub more : List ℕ
  pub whole : bytes ≡ body ++ star ∷ slash ∷ more
  pub len : n ≡ length body + 2
  pub apart : HasNoClose body

ends_here : (a : ℕ) (bs : List ℕ) (n : ℕ) → a ≡ star → begins_with slash bs ≡ true → n ≡ 2 → Closed (a ∷ bs) n
ends_here a [] n e s two = absurd (false≢true s)
ends_here a (b ∷ bs) n e s two =
    record {
      body = [];
      more = bs;
      whole = rw (e, eqb-true b slash s) refl;
      len = two;
      apart = λ before after h.
          empty_has_none before after h;
    }
  where
    empty_has_none : (before after : List ℕ) → [] ≡ before ++ star ∷ slash ∷ after → ⊥
    empty_has_none [] after h = cc
    empty_has_none (x ∷ xs) after h = cc

apart_here : (a : ℕ) (body more : List ℕ) →
    (eqb a star && begins_with slash (body ++ star ∷ slash ∷ more)) ≡ false → HasNoClose body → HasNoClose
    (a ∷ body)
apart_here a body more miss apart [] after h =
    let first : a ≡ star = cc in
    let rest : body ≡ slash ∷ after = cc in
    false≢true (sym miss ∙ rw (first, rest) refl)
apart_here a body more miss apart (x ∷ xs) after h =
    let rest : body ≡ xs ++ star ∷ slash ∷ after = cc in
    apart xs after rest

later : (a : ℕ) (bs : List ℕ) (n m : ℕ) → (eqb a star && begins_with slash bs) ≡ false → Closed bs m → n ≡ 1 + m →
    Closed (a ∷ bs) n
later a bs n m miss c e =
    record {
      body = a ∷ c.body;
      more = c.more;
      whole = ap (λ (ds : List ℕ). a ∷ ds) c.whole;
      len = omega (arith, c.len, e);
      apart = apart_here a c.body c.more (rw c.whole at miss) c.apart;
    }

mapped : (o : Option ℕ) (n : ℕ) → option_map (λ k. 1 + k) o ≡ Some n → (m : ℕ) × (o ≡ Some m) × (n ≡ 1 + m)
mapped None n e = cc
mapped (Some m) n e = (m, refl, cc)

-- where an end is found, a body stands before it
pub closed_from_close_len : (bytes : List ℕ) (n : ℕ) → close_len bytes ≡ Some n → Closed bytes n
unfolding close_len
closed_from_close_len [] n e = cc
closed_from_close_len (a ∷ bs) n e = by_test (eqb a star && begins_with slash bs) refl e
    (λ m h. closed_from_close_len bs m h)
  where
    by_test : (t : Bool) → (eqb a star && begins_with slash bs) ≡ t →
        cond t (Some 2) (option_map (λ k. 1 + k) (close_len bs)) ≡ Some n → ((m : ℕ) → close_len bs ≡ Some m →
        Closed bs m) → Closed (a ∷ bs) n
    by_test true t h rest =
        let parts = and_parts (eqb a star) (begins_with slash bs) t in
        ends_here a bs n (eqb-true a star parts.0) parts.1 cc
    by_test false t h rest =
        let further = mapped (close_len bs) n h in
        later a bs n further.0 t (rest further.0 further.1) further.2
