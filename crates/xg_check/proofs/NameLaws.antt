-- Where names stand first, as one more comes.
use Rattle.std.proofs.Common.{◌≡◌, ℕ, suc, Bool, true, false, cond, List, [], ◌∷◌, ◌++◌, length, Option, Some, None}
use Rattle.std.proofs.Common.{is_some, option_map, refl, sym, ap, ◌∙◌}
use Rattle.std.specs.Str.{bytes_eq}
use Rattle.std.proofs.lemmas.Slice.Eq.{bytes_eq-Decides}
use Rattle.std.proofs.lemmas.Bool.{false_from_ne_true, false≢true}
use Rattle.xg_check.specs.Places.{place_of}

-- the first that is there
abbrev or_at : Option ℕ → Option ℕ → Option ℕ
or_at None o = o
or_at (Some i) o = Some i

place-more : (names : List (List ℕ)) (n q : List ℕ)
    → place_of q (names ++ n ∷ []) ≡ or_at (place_of q names) (cond (bytes_eq q n) (Some (length names)) None)
place-more [] n q = refl
place-more (m ∷ ms) n q =
    ap (λ (o : Option ℕ). cond (bytes_eq q m) (Some 0) (option_map suc o)) (place-more ms n q)
    ∙ by_test (bytes_eq q m) (place_of q ms) (bytes_eq q n)
  where
    by_test : (b : Bool) (o : Option ℕ) (t : Bool)
        → cond b (Some 0) (option_map suc (or_at o (cond t (Some (length ms)) None)))
        ≡ or_at (cond b (Some 0) (option_map suc o)) (cond t (Some (suc (length ms))) None)
    by_test true o t = refl
    by_test false None true = refl
    by_test false None false = refl
    by_test false (Some i) t = refl

-- a name that was there changes no place
pub known-more : (names : List (List ℕ)) (n q : List ℕ) → is_some (place_of n names) ≡ true
    → place_of q (names ++ n ∷ []) ≡ place_of q names
known-more names n q h = place-more names n q ∙ by_place (place_of q names) refl
  where
    by_place : (o : Option ℕ) → place_of q names ≡ o → or_at o (cond (bytes_eq q n) (Some (length names)) None) ≡ o
    by_place (Some i) e = refl
    by_place None e = ap (λ (b : Bool). cond b (Some (length names)) None)
        (false_from_ne_true (bytes_eq q n) (λ t.
        let is : q ≡ n = (bytes_eq-Decides q n).0 t in
        false≢true (sym (ap is_some e) ∙ ap (λ (m : List ℕ). is_some (place_of m names)) is ∙ h)))

-- a new one stands behind the others
pub new-more : (names : List (List ℕ)) (n q : List ℕ) → is_some (place_of n names) ≡ false
    → place_of q (names ++ n ∷ []) ≡ cond (bytes_eq n q) (Some (length names)) (place_of q names)
new-more names n q h = place-more names n q ∙ by_test (bytes_eq n q) refl
  where
    nothing : (o : Option ℕ) → is_some o ≡ false → o ≡ None
    nothing None e = refl
    nothing (Some i) e = absurd (false≢true (sym e))

    or_none : (o : Option ℕ) → or_at o None ≡ o
    or_none None = refl
    or_none (Some i) = refl

    by_test : (b : Bool) → bytes_eq n q ≡ b
        → or_at (place_of q names) (cond (bytes_eq q n) (Some (length names)) None)
        ≡ cond b (Some (length names)) (place_of q names)
    by_test true t =
        let is : n ≡ q = (bytes_eq-Decides n q).0 t in
        let none : place_of q names ≡ None =
        sym (ap (λ (m : List ℕ). place_of m names) is) ∙ nothing (place_of n names) h in
        ap (λ (o : Option ℕ). or_at o (cond (bytes_eq q n) (Some (length names)) None)) none
        ∙ ap (λ (b : Bool). cond b (Some (length names)) None) ((bytes_eq-Decides q n).1 (sym is))
    by_test false f =
        let other : bytes_eq q n ≡ false = false_from_ne_true (bytes_eq q n) (λ t.
        let is : q ≡ n = (bytes_eq-Decides q n).0 t in
        false≢true (sym f ∙ (bytes_eq-Decides n q).1 (sym is))) in
        ap (λ (b : Bool). or_at (place_of q names) (cond b (Some (length names)) None)) other
        ∙ or_none (place_of q names)
