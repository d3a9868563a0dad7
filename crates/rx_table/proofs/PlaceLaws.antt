-- Where a connection stands among names, and names that grow or change in one place.
use Rattle.std.proofs.Common.{◌≡◌, ◌+◌, ◌<◌, ◌⊎◌, inl, inr, ℕ, zero, suc, Bool, true, false, cond, nat_lt, List, []}
use Rattle.std.proofs.Common.{◌∷◌, ◌++◌}
use Rattle.std.proofs.Common.{not, length, set, map, position, slice_get, Option, Some, None, refl, ap, sym, ◌∙◌}
use Rattle.std.proofs.Common.{arith, subst}
use Rattle.std.specs.List.{position_or_len}
use Rattle.std.specs.Option.{option_map}
use Rattle.std.proofs.lemmas.Bool.{false≢true, cases_eq}
use Rattle.std.proofs.lemmas.Bool.Decides.{nat_tests}
use Rattle.std.proofs.lemmas.Option.{none-some, same_Some}
use Rattle.rx_model.specs.Names.{Connection, same_connection}
use Rattle.rx_model.proofs.NameLaws.{connection_is, connection_itself}
use Rattle.rx_table.specs.Records.{IsDistinct}

-- a position in a list that begins with an element
position-cons : {X : Type 0} (p : X → Bool) (x : X) (xs : List X)
    → position p (x ∷ xs) ≡ cond (p x) (Some 0) (option_map suc (position p xs))
position-cons {X} p x xs =
    elim (p x) as (λ b. cond (nat_lt (cond (not b) (1 + position_or_len p xs) 0) (suc (length xs)))
    (Some (cond (not b) (1 + position_or_len p xs) 0)) None ≡ cond b (Some 0) (option_map suc (position p xs))) [
      | true ↦ let first : nat_lt 0 (suc (length xs)) ≡ true = grind (arith, nat_tests) in
          ap (λ b. cond b (Some 0) None) first
      | false ↦ (elim (nat_lt (position_or_len p xs) (length xs)) as (λ b. nat_lt (position_or_len p xs) (length xs) ≡ b
          → cond (nat_lt (1 + position_or_len p xs) (suc (length xs))) (Some (1 + position_or_len p xs)) None
          ≡ option_map suc (cond b (Some (position_or_len p xs)) None)) [
            | true ↦ λ h. (let next : nat_lt (1 + position_or_len p xs) (suc (length xs)) ≡ true =
                grind (arith, nat_tests) in
                ap (λ b. cond b (Some (1 + position_or_len p xs)) None) next ∙ ap Some (omega arith))
            | false ↦ λ h. (let next : nat_lt (1 + position_or_len p xs) (suc (length xs)) ≡ false =
                grind (arith, nat_tests) in
                ap (λ b. cond b (Some (1 + position_or_len p xs)) None) next)
          ]) refl
    ]

-- a position in a mapped list
pub position-map : {X Y : Type 0} (f : X → Y) (p : Y → Bool) (xs : List X)
    → position p (map f xs) ≡ position (λ x. p (f x)) xs
position-map f p [] = refl
position-map f p (x ∷ xs) =
    position-cons p (f x) (map f xs) ∙ ap (λ o. cond (p (f x)) (Some 0) (option_map suc o)) (position-map f p xs)
    ∙ sym (position-cons (λ y. p (f y)) x xs)

-- the place of a connection
abbrev pub place : List Connection → Connection → Option ℕ
place xs x = position (λ y. same_connection y x) xs

-- what is found at a place stands there
pub is_there : (xs : List Connection) (x : Connection) (p : ℕ) → place xs x ≡ Some p → slice_get xs p ≡ Some x
is_there [] x p h = absurd (none-some p h)
is_there (y ∷ ys) x p h =
    (elim (same_connection y x) as (λ b. same_connection y x ≡ b
    → cond b (Some 0) (option_map suc (place ys x)) ≡ Some p → slice_get (y ∷ ys) p ≡ Some x) [
      | true ↦ λ same e. subst (λ n. slice_get (y ∷ ys) n ≡ Some x) (same_Some _ _ e) (ap Some (connection_is y x same))
      | false ↦ λ other e. (elim (place ys x) as (λ o. place ys x ≡ o → option_map suc o ≡ Some p
          → slice_get (y ∷ ys) p ≡ Some x) [
            | None ↦ λ none f. absurd (none-some p f)
            | Some k ↦ λ some f. subst (λ n. slice_get (y ∷ ys) n ≡ Some x) (same_Some _ _ f) (is_there ys x k some)
          ]) refl e
    ]) refl (sym (position-cons (λ z. same_connection z x) y ys) ∙ h)

-- what is not found stands nowhere
pub is_absent : (xs : List Connection) (x : Connection) → place xs x ≡ None → (p : ℕ) → slice_get xs p ≡ Some x → ⊥
is_absent [] x h p at = none-some x at
is_absent (y ∷ ys) x h p at =
    (elim (same_connection y x) as (λ b. same_connection y x ≡ b
    → cond b (Some 0) (option_map suc (place ys x)) ≡ None → ⊥) [
      | true ↦ λ same e. none-some 0 (sym e)
      | false ↦ λ other e. elsewhere (is_absent ys x (by (place ys x) e)) p at other
    ]) refl (sym (position-cons (λ z. same_connection z x) y ys) ∙ h)
  where
    by : (o : Option ℕ) → option_map suc o ≡ None → o ≡ None
    by None e = refl
    by (Some k) e = absurd (none-some (suc k) (sym e))

    elsewhere : ((q : ℕ) → slice_get ys q ≡ Some x → ⊥) → (q : ℕ) → slice_get (y ∷ ys) q ≡ Some x
        → same_connection y x ≡ false → ⊥
    elsewhere nowhere zero here other =
        let is : y ≡ x = same_Some _ _ here in
        false≢true (sym other ∙ ap (λ z. same_connection z x) is ∙ connection_itself x)
    elsewhere nowhere (suc q) there other = nowhere q there

-- what stands at a place is found there
pub is_found : (xs : List Connection) (x : Connection) (p : ℕ) → IsDistinct xs → slice_get xs p ≡ Some x
    → place xs x ≡ Some p
is_found xs x p distinct at =
    (elim (place xs x) as (λ o. place xs x ≡ o → o ≡ Some p) [
      | None ↦ λ none. absurd (is_absent xs x none p at)
      | Some q ↦ λ some. ap Some (distinct q p x (is_there xs x q some) at)
    ]) refl

-- what stands nowhere isn't found
pub not_found : (xs : List Connection) (x : Connection) → ((p : ℕ) → slice_get xs p ≡ Some x → ⊥) → place xs x ≡ None
not_found xs x nowhere =
    (elim (place xs x) as (λ o. place xs x ≡ o → o ≡ None) [
      | None ↦ λ none. refl
      | Some q ↦ λ some. absurd (nowhere q (is_there xs x q some))
    ]) refl

-- ---- names after one is put into a place

-- one name stands at a place, and the others where they stood
pub record IsPut (xs ys : List Connection) (p : ℕ) (y : Connection) : Type 0 where
  pub here : slice_get ys p ≡ Some y
  pub others : (q : ℕ) → (q ≡ p → ⊥) → slice_get ys q ≡ slice_get xs q

pub put-push : (xs : List Connection) (y : Connection) → IsPut xs (xs ++ y ∷ []) (length xs) y
put-push xs y = record { here = last xs; others = others xs }
  where
    last : (zs : List Connection) → slice_get (zs ++ y ∷ []) (length zs) ≡ Some y
    last [] = refl
    last (z ∷ zs) = last zs

    others : (zs : List Connection) (q : ℕ) → (q ≡ length zs → ⊥) → slice_get (zs ++ y ∷ []) q ≡ slice_get zs q
    others [] zero other = absurd (other refl)
    others [] (suc q) other = refl
    others (z ∷ zs) zero other = refl
    others (z ∷ zs) (suc q) other = others zs q (λ e. other (ap suc e))

pub put-set : (xs : List Connection) (p : ℕ) (y : Connection) → p < length xs → IsPut xs (set xs p y) p y
put-set xs p y within = record { here = here xs p within; others = others xs p }
  where
    here : (zs : List Connection) (n : ℕ) → n < length zs → slice_get (set zs n y) n ≡ Some y
    here [] n below = absurd (omega arith)
    here (z ∷ zs) zero below = refl
    here (z ∷ zs) (suc n) below = here zs n (omega arith)

    others : (zs : List Connection) (n q : ℕ) → (q ≡ n → ⊥) → slice_get (set zs n y) q ≡ slice_get zs q
    others [] n q other = refl
    others (z ∷ zs) zero zero other = absurd (other refl)
    others (z ∷ zs) zero (suc q) other = refl
    others (z ∷ zs) (suc n) zero other = refl
    others (z ∷ zs) (suc n) (suc q) other = others zs n q (λ e. other (ap suc e))

-- names stay distinct where the new one stood nowhere
pub distinct-put : (xs ys : List Connection) (p : ℕ) (y : Connection) → IsDistinct xs → place xs y ≡ None
    → IsPut xs ys p y → IsDistinct ys
distinct-put xs ys p y distinct absent put q r z at_q at_r = by (cases_eq q p) (cases_eq r p)
  where
    nowhere : (n : ℕ) → (n ≡ p → ⊥) → slice_get ys n ≡ Some y → ⊥
    nowhere n other at = is_absent xs y absent n (sym (put.others n other) ∙ at)

    new : (n : ℕ) → n ≡ p → slice_get ys n ≡ Some z → z ≡ y
    new n is at = same_Some _ _ (sym at ∙ ap (slice_get ys) is ∙ put.here)

    by : (q ≡ p) ⊎ (q ≡ p → ⊥) → (r ≡ p) ⊎ (r ≡ p → ⊥) → q ≡ r
    by (inl a) (inl b) = a ∙ sym b
    by (inl a) (inr b) = absurd (nowhere r b (at_r ∙ ap Some (new q a at_q)))
    by (inr a) (inl b) = absurd (nowhere q a (at_q ∙ ap Some (new r b at_r)))
    by (inr a) (inr b) = distinct q r z (sym (put.others q a) ∙ at_q) (sym (put.others r b) ∙ at_r)
