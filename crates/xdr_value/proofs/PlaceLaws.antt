-- Definitions that are found at their places.
use Rattle.std.proofs.Common.{◌≡◌, ℕ, zero, suc, ◌<◌, Bool, true, false, List, [], ◌∷◌, Some, length}
use Rattle.std.proofs.Common.{get_or, slice_get, string_bytes, refl, sym, ap, subst, ◌∙◌, arith}
use Rattle.std.specs.Prelude.{not, option_map}
use Rattle.std.specs.Str.{bytes_eq}
use Rattle.std.proofs.lemmas.List.{length-map}
use Rattle.std.proofs.lemmas.Bool.{and_parts, or_left, or_right, false≢true}
use Rattle.std.proofs.lemmas.Slice.Eq.{bytes_eq-Decides}
use Rattle.xdr_value.specs.Data.{Form, Types}
use Rattle.xdr_value.specs.Heads.{form_named}
use Rattle.xdr_value.specs.View.{def_of, form_of, types_of}
use Rattle.xdr_value.specs.Facts.{names_of}
use Rattle.xdr_value.specs.Tests.{has_one, differ}
use Rattle.xdr_value.specs.Links.{name_at}
use Rattle.xdr_value.specs.declared.def.Def.{Def}

-- what stands at a place, seen as data
pub at_place : (ds : List Def) (i : ℕ) (d : Def) → i < length ds
    → slice_get (types_of ds) i ≡ Some (def_of (get_or ds i d))
at_place [] i d lt = absurd (omega (arith, lt))
at_place (e ∷ ds) zero d lt = refl
at_place (e ∷ ds) (suc i) d lt = at_place ds i d (omega (arith, lt))

pub named_there : (ds : List Def) (i : ℕ) (d : Def) → i < length ds
    → name_at i (types_of ds) ≡ Some (string_bytes (get_or ds i d).name)
named_there ds i d lt = ap (option_map (λ (x : List ℕ × Form). x.0)) (at_place ds i d lt)

-- a name at a place has its form there
pub has_place : (t : Types) (i : ℕ) (s : List ℕ) → name_at i t ≡ Some s
    → (f : Form) × (slice_get t i ≡ Some (s, f)) × (i < length t)
has_place [] i s e = absurd cc
has_place (d ∷ t) zero s e =
    let is : d.0 ≡ s = cc in
    (d.1, ap (λ (x : List ℕ). Some (x, d.1)) is, omega arith)
has_place (d ∷ t) (suc i) s e = let h = has_place t i s e in (h.0, h.1, omega (arith, h.2))

not_true : (b : Bool) → not b ≡ true → b ≡ false
not_true false h = refl
not_true true h = absurd (false≢true h)

is_one : (t : Types) (i : ℕ) (s : List ℕ) (f : Form) → slice_get t i ≡ Some (s, f)
    → has_one bytes_eq s (names_of t) ≡ true
unfolding has_one
is_one [] i s f e = absurd cc
is_one (d ∷ t) zero s f e =
    let is : d.0 ≡ s = cc in
    or_left (bytes_eq s d.0) (has_one bytes_eq s (names_of t)) ((bytes_eq-Decides s d.0).1 (sym is))
is_one (d ∷ t) (suc i) s f e = or_right (bytes_eq s d.0) (has_one bytes_eq s (names_of t)) (is_one t i s f e)

-- a name is another than that of one before
other : (t : Types) (i : ℕ) (s u : List ℕ) (f : Form) → slice_get t i ≡ Some (s, f)
    → has_one bytes_eq u (names_of t) ≡ false → (b : Bool) → bytes_eq u s ≡ b → b ≡ false
other t i s u f e none false is = refl
other t i s u f e none true is =
    let same : u ≡ s = (bytes_eq-Decides u s).0 is in
    absurd (false≢true (sym none ∙ subst (λ (x : List ℕ). has_one bytes_eq x (names_of t) ≡ true) (sym same)
    (is_one t i s f e)))

-- where the names differ, a name stands for what is said at its place
pub form_there : (t : Types) (i : ℕ) (s : List ℕ) (f : Form) → differ bytes_eq (names_of t) ≡ true
    → slice_get t i ≡ Some (s, f) → form_named s t ≡ Some f
unfolding differ
form_there [] i s f h e = absurd cc
form_there (d ∷ t) zero s f h e =
    let is : d ≡ (s, f) = cc in
    rw (is, (bytes_eq-Decides s s).1 refl) refl
form_there (d ∷ t) (suc i) s f h e =
    let p = and_parts (not (has_one bytes_eq d.0 (names_of t))) (differ bytes_eq (names_of t)) h in
    let no : bytes_eq d.0 s ≡ false = other t i s d.0 f e (not_true (has_one bytes_eq d.0 (names_of t)) p.0)
    (bytes_eq d.0 s) refl in
    rw no (form_there t i s f p.1 e)

-- the same in the words of the code
pub shape_there : (ds : List Def) (i : ℕ) (d : Def) (s : List ℕ) → differ bytes_eq (names_of (types_of ds)) ≡ true
    → name_at i (types_of ds) ≡ Some s → form_named s (types_of ds) ≡ Some (form_of (get_or ds i d).shape)
shape_there ds i d s differ at =
    let h = has_place (types_of ds) i s at in
    let lt : i < length ds = omega (arith, h.2, length-map ds def_of) in
    let e : Some (s, h.0) ≡ Some (def_of (get_or ds i d)) = sym h.1 ∙ at_place ds i d lt in
    form_there (types_of ds) i s h.0 differ h.1 ∙ ap (option_map (λ (x : List ℕ × Form). x.1)) e

-- a place where a name stands is one of the list
pub place_within : (ds : List Def) (i : ℕ) (s : List ℕ) → name_at i (types_of ds) ≡ Some s → i < length ds
place_within ds i s at = omega (arith, (has_place (types_of ds) i s at).2, length-map ds def_of)
