-- What the tests tell: each is true exactly where its fact holds.
use Rattle.std.proofs.Common.{◌≡◌, ◌≢◌, ◌↔◌, ℕ, ℤ, ◌^◌, Bool, true, false, ◌&&◌, not, List, [], ◌∷◌, Option, Some, None}
use Rattle.std.proofs.Common.{refl, subst}
use lib.IntN.{pos, negsuc}
use Rattle.std.specs.Prelude.{is_some}
use Rattle.std.specs.List.{AllByRecursion, IsDistinct}
use Rattle.std.proofs.lemmas.Bool.{and_parts, and_from, or_parts, or_from, not-true, not_from_false, ltb-true, lt-ltb}
use Rattle.std.proofs.lemmas.Bool.{false≢true}
use Rattle.xdr_value.specs.Data.{Kind, basic, array, array_up_to, maybe, named, Choice, Form, Types, Param}
use Rattle.xdr_value.specs.Ranges.{IsBelow, IsWithin, is_below, is_within}
use Rattle.xdr_value.specs.Heads.{Tag, tag_int, tag_uint, tag_bool, tag_enum, tag_other, form_named}
use Rattle.xdr_value.specs.Facts.{IsDefined, IsKnown, IsCase, CaseInRange}
use Rattle.xdr_value.specs.Tests.{has_one, differ, is_known, kinds_known, members_in_range, case_in_range, arm_in_range}
use Rattle.xdr_value.specs.Tests.{arms_in_range, is_tag, is_filled, params_known}

-- a test that is false tells what cannot be
pub never : (false ≡ true) ↔ ⊥
never = (false≢true, λ h. absurd h)

-- one that is true tells nothing
pub always : (true ≡ true) ↔ Unit {0}
always = (λ h. tt, λ h. refl)

-- two tests tell both facts
pub both : (x y : Bool) (A B : Type 0) → ((x ≡ true) ↔ A) → ((y ≡ true) ↔ B) → ((x && y) ≡ true) ↔ (A × B)
both x y A B p q = (
  λ h. let r = and_parts x y h in (p.0 r.0, q.0 r.1),
  λ h. and_from x y (p.1 h.0) (q.1 h.1),
)

-- ---- lists

none_equal : {K : Type 0} (e : K → K → Bool) (x : K) (xs : List K) → has_one e x xs ≡ false
    → AllByRecursion (λ y. e x y ≡ false) xs
unfolding has_one
none_equal e x [] h = tt
none_equal e x (y ∷ ys) h = let p = or_parts (e x y) (has_one e x ys) h in (p.0, none_equal e x ys p.1)

has_none : {K : Type 0} (e : K → K → Bool) (x : K) (xs : List K) → AllByRecursion (λ y. e x y ≡ false) xs
    → has_one e x xs ≡ false
unfolding has_one
has_none e x [] h = refl
has_none e x (y ∷ ys) h = or_from (e x y) (has_one e x ys) h.0 (has_none e x ys h.1)

-- what differ tells
pub distinct : {K : Type 0} (e : K → K → Bool) (xs : List K) → differ e xs ≡ true → IsDistinct e xs
unfolding differ IsDistinct
distinct e [] h = tt
distinct e (x ∷ xs) h =
    let p = and_parts (not (has_one e x xs)) (differ e xs) h in
    (none_equal e x xs (not-true (has_one e x xs) p.0), distinct e xs p.1)

pub differs : {K : Type 0} (e : K → K → Bool) (xs : List K) → IsDistinct e xs → differ e xs ≡ true
unfolding differ IsDistinct
differs e [] h = refl
differs e (x ∷ xs) h =
    and_from (not (has_one e x xs)) (differ e xs) (not_from_false (has_one e x xs) (has_none e x xs h.0))
    (differs e xs h.1)

pub filled : {X : Type 0} (xs : List X) → (is_filled xs ≡ true) ↔ (xs ≢ [])
filled [] = (λ h. absurd (false≢true h), λ h. absurd (h refl))
filled (x ∷ xs) = (λ h e. cc, λ h. refl)

-- ---- names

defined_at : (o : Option Form) → (is_some o ≡ true) ↔ ((f : Form) × (o ≡ Some f))
defined_at None = (λ h. absurd (false≢true h), λ h. absurd cc)
defined_at (Some f) = (λ h. (f, refl), λ h. refl)

pub defined : (t : Types) (s : List ℕ) → (is_some (form_named s t) ≡ true) ↔ IsDefined t s
defined t s = defined_at (form_named s t)

pub known : (t : Types) (k : Kind) → (is_known t k ≡ true) ↔ IsKnown t k
known t (basic b) = always
known t (array k n) = known t k
known t (array_up_to k n) = known t k
known t (maybe k) = known t k
known t (named s) = defined t s

pub kinds_are_known : (t : Types) (ks : List Kind) → (kinds_known t ks ≡ true) ↔ AllByRecursion (IsKnown t) ks
kinds_are_known t [] = always
kinds_are_known t (k ∷ ks) = both (is_known t k) (kinds_known t ks) (IsKnown t k) (AllByRecursion (IsKnown t) ks)
    (known t k) (kinds_are_known t ks)

pub params_are_known : (t : Types) (ps : List Param)
    → (params_known t ps ≡ true) ↔ AllByRecursion (λ (p : Param). IsKnown t p.kind) ps
params_are_known t [] = always
params_are_known t (p ∷ ps) =
    both (is_known t p.kind) (params_known t ps) (IsKnown t p.kind)
    (AllByRecursion (λ (p : Param). IsKnown t p.kind) ps) (known t p.kind) (params_are_known t ps)

-- ---- ranges

pub below : (n : ℕ) (z : ℤ) → (is_below n z ≡ true) ↔ IsBelow n z
below n (pos m) = (ltb-true m n, lt-ltb m n)
below n (negsuc m) = never

pub within : (n : ℕ) (z : ℤ) → (is_within n z ≡ true) ↔ IsWithin n z
within n (pos m) = (ltb-true m n, lt-ltb m n)
within n (negsuc m) = (ltb-true m n, lt-ltb m n)

pub members : (ms : List (List ℕ × ℤ))
    → (members_in_range ms ≡ true) ↔ AllByRecursion (λ (m : List ℕ × ℤ). IsWithin (2 ^ 31) m.1) ms
members [] = always
members (m ∷ ms) =
    both (is_within (2 ^ 31) m.1) (members_in_range ms) (IsWithin (2 ^ 31) m.1)
    (AllByRecursion (λ (m : List ℕ × ℤ). IsWithin (2 ^ 31) m.1) ms) (within (2 ^ 31) m.1) (members ms)

pub a_case : (tag : Tag) (z : ℤ) → (case_in_range tag z ≡ true) ↔ IsCase tag z
a_case tag_int z = within (2 ^ 31) z
a_case tag_uint z = below (2 ^ 32) z
a_case tag_bool z = below 2 z
a_case (tag_enum ms) z = (λ h. h, λ h. h)
a_case tag_other z = never

an_arm : (tag : Tag) (o : Option ℤ) → (arm_in_range tag o ≡ true) ↔ ((z : ℤ) → o ≡ Some z → IsCase tag z)
an_arm tag None = (λ h z e. absurd cc, λ h. refl)
an_arm tag (Some y) = (
  λ h z e. let is : y ≡ z = cc in subst (IsCase tag) is ((a_case tag y).0 h),
  λ h. (a_case tag y).1 (h y refl),
)

pub arms : (tag : Tag) (cs : List Choice) → (arms_in_range tag cs ≡ true) ↔ AllByRecursion (CaseInRange tag) cs
arms tag [] = always
arms tag (c ∷ cs) = both (arm_in_range tag c.case) (arms_in_range tag cs) (CaseInRange tag c)
    (AllByRecursion (CaseInRange tag) cs) (an_arm tag c.case) (arms tag cs)

pub a_tag : (tag : Tag) → (is_tag tag ≡ true) ↔ (tag ≢ tag_other)
a_tag tag_int = (λ h e. cc, λ h. refl)
a_tag tag_uint = (λ h e. cc, λ h. refl)
a_tag tag_bool = (λ h e. cc, λ h. refl)
a_tag (tag_enum ms) = (λ h e. cc, λ h. refl)
a_tag tag_other = (λ h. absurd (false≢true h), λ h. absurd (h refl))
