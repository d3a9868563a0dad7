-- Definitions that are found by their names.
use Rattle.std.proofs.Common.{◌≡◌, ℕ, Bool, true, false, cond, List, [], ◌∷◌, Option, Some, refl, sym, ap, subst, inl}
use Rattle.std.proofs.Common.{inr, ◌⊎◌}
use Rattle.std.specs.Str.{bytes_eq}
use Rattle.std.specs.Cmp.{IsEquivalence}
use Rattle.std.specs.List.{AllByRecursion, list_any}
use Rattle.std.proofs.lemmas.Slice.Eq.{bytes_eq-Decides}
use Rattle.std.proofs.lemmas.Bool.{or_left, or_right}
use Rattle.xdr_value.specs.Data.{Form, Types}
use Rattle.xdr_value.specs.Heads.{form_named}
use Rattle.xdr_value.specs.Facts.{IsDefined, names_of}

-- either this one was found, or one behind it
pub found : (b : Bool) (f g : Form) (o : Option Form) → cond b (Some f) o ≡ Some g
    → ((b ≡ true) × (f ≡ g)) ⊎ (o ≡ Some g)
found true f g o e = inl (refl, cc)
found false f g o e = inr e

-- what holds of each definition holds of one that is found
pub of_found : (P : Form → Type 0) (ds : Types) (s : List ℕ) (f : Form)
    → AllByRecursion (λ (d : List ℕ × Form). P d.1) ds → form_named s ds ≡ Some f → P f
of_found P [] s f h e = absurd cc
of_found P (d ∷ ds) s f h e =
    elim (found (bytes_eq d.0 s) d.1 f (form_named s ds) e) [
      | inl q ↦ subst P q.1 h.0
      | inr q ↦ of_found P ds s f h.1 q
    ]

-- and of a name that is found
pub of_name : (P : List ℕ → Type 0) (ds : Types) (s : List ℕ) (f : Form)
    → AllByRecursion (λ (d : List ℕ × Form). P d.0) ds → form_named s ds ≡ Some f → P s
of_name P [] s f h e = absurd cc
of_name P (d ∷ ds) s f h e =
    elim (found (bytes_eq d.0 s) d.1 f (form_named s ds) e) [
      | inl q ↦ subst P ((bytes_eq-Decides d.0 s).0 q.0) h.0
      | inr q ↦ of_name P ds s f h.1 q
    ]

-- ---- names as keys

same : (x y : List ℕ) → bytes_eq x y ≡ true → x ≡ y
same x y h = (bytes_eq-Decides x y).0 h

is_same : (x y : List ℕ) → x ≡ y → bytes_eq x y ≡ true
is_same x y e = (bytes_eq-Decides x y).1 e

same_tests : (a b : Bool) → (a ≡ true → b ≡ true) → (b ≡ true → a ≡ true) → a ≡ b
same_tests true b p q = sym (p refl)
same_tests false true p q = q refl
same_tests false false p q = refl

pub name_laws : IsEquivalence bytes_eq
name_laws = record {
  refl = λ x. is_same x x refl;
  symm = λ x y. same_tests (bytes_eq x y) (bytes_eq y x) (λ h. is_same y x (sym (same x y h)))
      (λ h. is_same x y (sym (same y x h)));
  congr = λ x y z h. ap (λ (w : List ℕ). bytes_eq w z) (same x y h);
}

-- a defined name is one of the names
pub is_name : (t : Types) (s : List ℕ) (f : Form) → form_named s t ≡ Some f → list_any (bytes_eq s) (names_of t) ≡ true
is_name [] s f e = absurd cc
is_name (d ∷ ds) s f e =
    elim (found (bytes_eq d.0 s) d.1 f (form_named s ds) e) [
      | inl q ↦ or_left (bytes_eq s d.0) (list_any (bytes_eq s) (names_of ds)) (is_same s d.0 (sym (same d.0 s q.0)))
      | inr q ↦ or_right (bytes_eq s d.0) (list_any (bytes_eq s) (names_of ds)) (is_name ds s f q)
    ]

at_first : (b : Bool) (f : Form) (o : Option Form) → ((b ≡ true) ⊎ ((g : Form) × (o ≡ Some g)))
    → (g : Form) × (cond b (Some f) o ≡ Some g)
at_first true f o h = (f, refl)
at_first false f o (inl e) = absurd cc
at_first false f o (inr h) = h

defined_behind : (d : List ℕ × Form) (ds : Types) (s : List ℕ) → IsDefined ds s → IsDefined (d ∷ ds) s
defined_behind d ds s h = at_first (bytes_eq d.0 s) d.1 (form_named s ds) (inr h)

-- what holds of each holds of each where it follows
pub all_map : {X : Type 0} (P Q : X → Type 0) → ((x : X) → P x → Q x) → (xs : List X) → AllByRecursion P xs
    → AllByRecursion Q xs
all_map P Q go [] h = tt
all_map P Q go (x ∷ xs) h = (go x h.0, all_map P Q go xs h.1)

-- each definition's name is defined
pub each_defined : (ds : Types) → AllByRecursion (λ (d : List ℕ × Form). IsDefined ds d.0) ds
each_defined [] = tt
each_defined (d ∷ ds) = (
  at_first (bytes_eq d.0 d.0) d.1 (form_named d.0 ds) (inl (is_same d.0 d.0 refl)),
  all_map (λ (c : List ℕ × Form). IsDefined ds c.0) (λ (c : List ℕ × Form). IsDefined (d ∷ ds) c.0)
      (λ c h. defined_behind d ds c.0 h) ds (each_defined ds),
)
