-- No type holds itself exactly where each type ends within as many names as there are.
use Rattle.std.proofs.Common.{◌≡◌, ℕ, zero, suc, ◌+◌, ◌<◌, ◌≤◌, Bool, true, false, List, [], ◌∷◌, length, Option, Some}
use Rattle.std.proofs.Common.{refl, sym, subst, inl, inr, arith}
use Rattle.std.specs.Str.{bytes_eq}
use Rattle.std.specs.List.{AllByRecursion, IsDistinct, list_any}
use Rattle.std.proofs.lemmas.List.{length-map}
use Rattle.std.proofs.lemmas.Slice.Eq.{bytes_eq-Decides}
use Rattle.std.proofs.lemmas.Map.Made.{length-le_from_is_member}
use Rattle.std.proofs.lemmas.Bool.{and_parts, and_from, or_cases, false_from_ne_true, false≢true}
use Rattle.xdr_value.specs.Data.{Kind, basic, array, array_up_to, maybe, named, Form, Types}
use Rattle.xdr_value.specs.Heads.{form_named}
use Rattle.xdr_value.specs.Hollow.{core}
use Rattle.xdr_value.specs.Facts.{IsDefined, IsKnown, form_kinds, OneHolds, TypeHolds, at_once, through, IsEndless}
use Rattle.xdr_value.specs.Facts.{names_of}
use Rattle.xdr_value.specs.Tests.{core_ends, kinds_end, form_ends, name_ends, all_end}
use Rattle.xdr_value.proofs.Forms.{of_name, name_laws, is_name, all_map, each_defined}

-- ---- where types end, none holds itself

held_ends : (held : List ℕ → Bool) (k : Kind) (u : List ℕ) → core k ≡ named u → core_ends held (core k) ≡ true
    → held u ≡ true
held_ends held k u e h = subst (λ (c : Kind). core_ends held c ≡ true) e h

one_ends : (held : List ℕ → Bool) (ks : List Kind) (u : List ℕ) → OneHolds ks u → kinds_end held ks ≡ true
    → held u ≡ true
one_ends held [] u o h = absurd o
one_ends held (k ∷ ks) u (inl e) h = held_ends held k u e (and_parts (core_ends held (core k)) (kinds_end held ks) h).0
one_ends held (k ∷ ks) u (inr o) h = one_ends held ks u o (and_parts (core_ends held (core k)) (kinds_end held ks) h).1

-- a name that ends holds at once only names that end within fewer
step_ends : (n : ℕ) (t : Types) (s u : List ℕ) (f : Form) → form_named s t ≡ Some f → OneHolds (form_kinds f) u
    → name_ends n t s ≡ true → (m : ℕ) × (m < n) × (name_ends m t u ≡ true)
unfolding name_ends
step_ends zero t s u f e o h = absurd (false≢true h)
step_ends (suc n) t s u f e o h = (
  n,
  omega arith,
  one_ends (name_ends n t) (form_kinds f) u o
      (subst (λ (x : Option Form). form_ends (name_ends n t) x ≡ true) e h),
)

all_steps_end : (t : Types) (n : ℕ) (s u : List ℕ) → TypeHolds t s u → name_ends n t s ≡ true
    → (m : ℕ) × (m < n) × (name_ends m t u ≡ true)
all_steps_end t n s u (at_once s' u' f e o) h = step_ends n t s u f e o h
all_steps_end t n s v (through s' u v' f e o rest) h =
    let a = step_ends n t s u f e o h in
    let b = all_steps_end t a.0 u v rest a.2 in
    (b.0, omega (arith, a.1, b.1), b.2)

no_ring : (n m : ℕ) (t : Types) (s : List ℕ) → m ≤ n → TypeHolds t s s → name_ends m t s ≡ true → ⊥
no_ring zero m t s le holds h = let a = all_steps_end t m s s holds h in omega (arith, a.1, le)
no_ring (suc n) m t s le holds h =
    let a = all_steps_end t m s s holds h in
    no_ring n a.0 t s (omega (arith, a.1, le)) holds a.2

each_ends : (t ds : Types) → all_end t ds ≡ true
    → AllByRecursion (λ (d : List ℕ × Form). name_ends (length t) t d.0 ≡ true) ds
each_ends t [] h = tt
each_ends t (d ∷ ds) h = let p = and_parts (name_ends (length t) t d.0) (all_end t ds) h in (p.0, each_ends t ds p.1)

-- a defined name ends
pub ends_named : (t : Types) (s : List ℕ) (f : Form) → all_end t t ≡ true → form_named s t ≡ Some f
    → name_ends (length t) t s ≡ true
ends_named t s f h e = of_name (λ (s : List ℕ). name_ends (length t) t s ≡ true) t s f (each_ends t t h) e

first_form : (t : Types) (s u : List ℕ) → TypeHolds t s u → IsDefined t s
first_form t s u (at_once s' u' f e o) = (f, e)
first_form t s u (through s' v u' f e o rest) = (f, e)

pub none_endless : (t : Types) → all_end t t ≡ true → (s : List ℕ) → IsEndless t s → ⊥
none_endless t h s holds =
    let f = first_form t s s holds in
    no_ring (length t) (length t) t s (omega arith) holds (ends_named t s f.0 h f.1)

-- ---- where none holds itself, types end

-- one name more
longer : (t : Types) (v s u : List ℕ) (f : Form) → form_named s t ≡ Some f → OneHolds (form_kinds f) u → TypeHolds t v s
    → TypeHolds t v u
longer t v s u f e o (at_once v' s' g d p) = through v s u g d p (at_once s u f e o)
longer t v s u f e o (through v' w s' g d p rest) = through v w u g d p (longer t w s u f e o rest)

not_seen : (t : Types) (s : List ℕ) → (IsEndless t s → ⊥) → (seen : List (List ℕ))
    → AllByRecursion (λ v. TypeHolds t v s) seen → AllByRecursion (λ v. bytes_eq s v ≡ false) seen
not_seen t s none [] h = tt
not_seen t s none (v ∷ seen) h = (
  false_from_ne_true (bytes_eq s v)
      (λ e. let is : s ≡ v = (bytes_eq-Decides s v).0 e in none (subst (λ (w : List ℕ). TypeHolds t w s) (sym is) h.0)),
  not_seen t s none seen h.1,
)

all_names : (t : Types) (xs : List (List ℕ)) → AllByRecursion (IsDefined t) xs → (q : List ℕ)
    → list_any (bytes_eq q) xs ≡ true → list_any (bytes_eq q) (names_of t) ≡ true
all_names t [] h q e = absurd (false≢true e)
all_names t (x ∷ xs) h q e =
    elim (or_cases (bytes_eq q x) (list_any (bytes_eq q) xs) e) [
      | inl same ↦ subst (λ (w : List ℕ). list_any (bytes_eq w) (names_of t) ≡ true)
          (sym ((bytes_eq-Decides q x).0 same)) (is_name t x h.0.0 h.0.1)
      | inr behind ↦ all_names t xs h.1 q behind
    ]

-- names that differ and are defined are no more than the definitions
no_more : (t : Types) (xs : List (List ℕ)) → IsDistinct bytes_eq xs → AllByRecursion (IsDefined t) xs
    → length xs ≤ length t
no_more t xs differ defined =
    let le : length xs ≤ length (names_of t) = length-le_from_is_member name_laws xs (names_of t) differ
    (all_names t xs defined) in
    let len : length (names_of t) ≡ length t = length-map t (λ (d : List ℕ × Form). d.0) in
    omega (arith, le, len)

core_will_end : (t : Types) (held : List ℕ → Bool) (k : Kind) → IsKnown t k
    → ((u : List ℕ) → IsDefined t u → core k ≡ named u → held u ≡ true) → core_ends held (core k) ≡ true
core_will_end t held (basic b) known go = refl
core_will_end t held (array k n) known go = core_will_end t held k known go
core_will_end t held (array_up_to k n) known go = refl
core_will_end t held (maybe k) known go = refl
core_will_end t held (named s) known go = go s known refl

kinds_will_end : (t : Types) (held : List ℕ → Bool) (ks : List Kind) → AllByRecursion (IsKnown t) ks
    → ((u : List ℕ) → IsDefined t u → OneHolds ks u → held u ≡ true) → kinds_end held ks ≡ true
kinds_will_end t held [] known go = refl
kinds_will_end t held (k ∷ ks) known go =
    and_from (core_ends held (core k)) (kinds_end held ks)
    (core_will_end t held k known.0 (λ u defined e. go u defined (inl e)))
    (kinds_will_end t held ks known.1 (λ u defined o. go u defined (inr o)))

abbrev FormsKnown : Types → Type 0
FormsKnown t = (s : List ℕ) (f : Form) → form_named s t ≡ Some f → AllByRecursion (IsKnown t) (form_kinds f)

-- the names that were seen on the way to s hold it, so s is none of them, and there are no more than definitions
ends_within : (t : Types) → FormsKnown t → ((s : List ℕ) → IsEndless t s → ⊥)
    → (n : ℕ) (s : List ℕ) (seen : List (List ℕ))
    → IsDefined t s → AllByRecursion (IsDefined t) seen → AllByRecursion (λ v. TypeHolds t v s) seen
    → IsDistinct bytes_eq seen → length t ≤ length seen + n → name_ends n t s ≡ true
unfolding name_ends IsDistinct
ends_within t known none zero s seen defined defs held differ le =
    let few = no_more t (s ∷ seen) (not_seen t s (none s) seen held, differ) (defined, defs) in
    absurd (omega (arith, few, le))
ends_within t known none (suc n) s seen defined defs held differ le =
    rw defined.1 (kinds_will_end t (name_ends n t) (form_kinds defined.0) (known s defined.0 defined.1)
    (λ u is_defined o.
    ends_within t known none n u (s ∷ seen) is_defined (defined, defs) (
      at_once s u defined.0 defined.1 o,
      all_map (λ v. TypeHolds t v s) (λ v. TypeHolds t v u)
          (λ v h. longer t v s u defined.0 defined.1 o h) seen held,
    )
    (not_seen t s (none s) seen held, differ) (omega (arith, le))))

each_will_end : (t ds : Types) → AllByRecursion (λ (d : List ℕ × Form). name_ends (length t) t d.0 ≡ true) ds
    → all_end t ds ≡ true
each_will_end t [] h = refl
each_will_end t (d ∷ ds) h = and_from (name_ends (length t) t d.0) (all_end t ds) h.0 (each_will_end t ds h.1)

pub all_will_end : (t : Types) → FormsKnown t → ((s : List ℕ) → IsEndless t s → ⊥) → all_end t t ≡ true
unfolding IsDistinct
all_will_end t known none =
    each_will_end t t (all_map (λ (d : List ℕ × Form). IsDefined t d.0)
    (λ (d : List ℕ × Form). name_ends (length t) t d.0 ≡ true)
    (λ d defined. ends_within t known none (length t) d.0 [] defined tt tt tt (omega arith)) t (each_defined t))
