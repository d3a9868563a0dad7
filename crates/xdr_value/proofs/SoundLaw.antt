-- The test of an interface says yes exactly where its facts hold.
use Rattle.std.proofs.Common.{◌≡◌, ◌≢◌, ◌↔◌, ℕ, ℤ, Bool, true, ◌&&◌, List, [], ◌∷◌, map}
use Rattle.std.specs.Prelude.{nat_eq}
use Rattle.std.specs.Str.{bytes_eq}
use Rattle.std.specs.List.{AllByRecursion, IsDistinct}
use Rattle.std.proofs.lemmas.Bool.{and_parts, and_from}
use Rattle.xdr_value.specs.Data.{Kind, Part, Choice, Form, alias, enum, struct, choice, Types, Param, Procedure, Procs}
use Rattle.xdr_value.specs.Heads.{tag_of, head_of, arm_kind, tag_other}
use Rattle.xdr_value.specs.Facts.{IsKnown, CaseInRange, part_kinds, form_kinds, same_case, names_of, FormIsSound}
use Rattle.xdr_value.specs.Facts.{ProcIsSound, IsSound}
use Rattle.xdr_value.specs.Tests.{differ, is_known, kinds_known, all_end, members_in_range, arms_in_range, is_tag}
use Rattle.xdr_value.specs.Tests.{is_filled, form_sound, all_sound, params_known, proc_sound, procs_sound, is_sound}
use Rattle.xdr_value.proofs.Tells.{both, always, distinct, differs, filled, known, kinds_are_known, params_are_known}
use Rattle.xdr_value.proofs.Tells.{members, arms, a_tag}
use Rattle.xdr_value.proofs.Forms.{of_found}
use Rattle.xdr_value.proofs.Rings.{none_endless, all_will_end}

differ_is : {K : Type 0} (e : K → K → Bool) (xs : List K) → (differ e xs ≡ true) ↔ IsDistinct e xs
differ_is e xs = (distinct e xs, differs e xs)

enum_is : (t : Types) (ms : List (List ℕ × ℤ)) → (form_sound t (enum ms) ≡ true) ↔ FormIsSound t (enum ms)
enum_is t ms =
    let named = differ_is bytes_eq (names_of ms) in
    let ranged = members ms in
    let some = filled ms in (
      λ h.
          let p = and_parts (is_filled ms && differ bytes_eq (names_of ms)) (members_in_range ms) h in
          let q = and_parts (is_filled ms) (differ bytes_eq (names_of ms)) p.0 in
          (some.0 q.0, named.0 q.1, ranged.0 p.1),
      λ h. and_from (is_filled ms && differ bytes_eq (names_of ms)) (members_in_range ms)
          (and_from (is_filled ms) (differ bytes_eq (names_of ms)) (some.1 h.0) (named.1 h.1)) (ranged.1 h.2),
    )

struct_is : (t : Types) (ps : List Part) → (form_sound t (struct ps) ≡ true) ↔ FormIsSound t (struct ps)
struct_is t ps =
    both (kinds_known t (part_kinds ps)) (differ bytes_eq (map (λ (p : Part). p.name) ps))
    (AllByRecursion (IsKnown t) (part_kinds ps)) (IsDistinct bytes_eq (map (λ (p : Part). p.name) ps))
    (kinds_are_known t (part_kinds ps)) (differ_is bytes_eq (map (λ (p : Part). p.name) ps))

module _ (a b c d e : Bool) (A B C D E : Type 0) where
  -- the five tests of a union, one after the other
  five : ((a ≡ true) ↔ A) → ((b ≡ true) ↔ B) → ((c ≡ true) ↔ C) → ((d ≡ true) ↔ D) → ((e ≡ true) ↔ E)
      → ((a && b && c && d && e) ≡ true) ↔ (A × B × C × D × E)
  five p q r s u = (
    λ h.
        let w = and_parts (a && b && c && d) e h in
        let x = and_parts (a && b && c) d w.0 in
        let y = and_parts (a && b) c x.0 in
        let z = and_parts a b y.0 in
        (p.0 z.0, q.0 z.1, r.0 y.1, s.0 x.1, u.0 w.1),
    λ h. and_from (a && b && c && d) e
        (and_from (a && b && c) d (and_from (a && b) c (and_from a b (p.1 h.0) (q.1 h.1)) (r.1 h.2)) (s.1 h.3))
        (u.1 h.4),
  )

union_is : (t : Types) (k : Kind) (cs : List Choice) → (form_sound t (choice k cs) ≡ true) ↔ FormIsSound t (choice k cs)
union_is t k cs =
    five (is_filled cs) (is_known t k && kinds_known t (map arm_kind cs)) (is_tag (tag_of (head_of t k)))
    (differ same_case (map (λ (c : Choice). c.case) cs)) (arms_in_range (tag_of (head_of t k)) cs)
    (cs ≢ []) (AllByRecursion (IsKnown t) (k ∷ map arm_kind cs)) (tag_of (head_of t k) ≢ tag_other)
    (IsDistinct same_case (map (λ (c : Choice). c.case) cs))
    (AllByRecursion (CaseInRange (tag_of (head_of t k))) cs)
    (filled cs) (kinds_are_known t (k ∷ map arm_kind cs)) (a_tag (tag_of (head_of t k)))
    (differ_is same_case (map (λ (c : Choice). c.case) cs)) (arms (tag_of (head_of t k)) cs)

pub form_is : (t : Types) (f : Form) → (form_sound t f ≡ true) ↔ FormIsSound t f
form_is t (alias k) = known t k
form_is t (enum ms) = enum_is t ms
form_is t (struct ps) = struct_is t ps
form_is t (choice k cs) = union_is t k cs

pub forms_are : (t ds : Types) → (all_sound t ds ≡ true) ↔ AllByRecursion (λ (d : List ℕ × Form). FormIsSound t d.1) ds
forms_are t [] = always
forms_are t (d ∷ ds) = both (form_sound t d.1) (all_sound t ds) (FormIsSound t d.1)
    (AllByRecursion (λ (d : List ℕ × Form). FormIsSound t d.1) ds) (form_is t d.1) (forms_are t ds)

proc_is : (t : Types) (p : Procedure) → (proc_sound t p ≡ true) ↔ ProcIsSound t p
proc_is t p =
    both (params_known t p.params) (differ bytes_eq (map (λ (a : Param). a.name) p.params))
    (AllByRecursion (λ (a : Param). IsKnown t a.kind) p.params)
    (IsDistinct bytes_eq (map (λ (a : Param). a.name) p.params))
    (params_are_known t p.params) (differ_is bytes_eq (map (λ (a : Param). a.name) p.params))

procs_are : (t : Types) (ps : Procs) → (procs_sound t ps ≡ true) ↔ AllByRecursion (ProcIsSound t) ps
procs_are t [] = always
procs_are t (p ∷ ps) = both (proc_sound t p) (procs_sound t ps) (ProcIsSound t p) (AllByRecursion (ProcIsSound t) ps)
    (proc_is t p) (procs_are t ps)

-- the types of a sound definition are known
form_known : (t : Types) (f : Form) → FormIsSound t f → AllByRecursion (IsKnown t) (form_kinds f)
form_known t (alias k) h = (h, tt)
form_known t (enum ms) h = tt
form_known t (struct ps) h = h.0
form_known t (choice k cs) h = h.1

-- a test that is one of six
pub record SixTests (a b c d e f : Bool) : Type 0 where
  pub first : a ≡ true
  pub second : b ≡ true
  pub third : c ≡ true
  pub fourth : d ≡ true
  pub fifth : e ≡ true
  pub sixth : f ≡ true

pub six : (a b c d e f : Bool) → (a && b && c && d && e && f) ≡ true → SixTests a b c d e f
six a b c d e f h =
    let v = and_parts (a && b && c && d && e) f h in
    let w = and_parts (a && b && c && d) e v.0 in
    let x = and_parts (a && b && c) d w.0 in
    let y = and_parts (a && b) c x.0 in
    let z = and_parts a b y.0 in
    record { first = z.0; second = z.1; third = y.1; fourth = x.1; fifth = w.1; sixth = v.1 }

from_six : (a b c d e f : Bool) → SixTests a b c d e f → (a && b && c && d && e && f) ≡ true
from_six a b c d e f h =
    and_from (a && b && c && d && e) f
    (and_from (a && b && c && d) e
    (and_from (a && b && c) d (and_from (a && b) c (and_from a b h.first h.second) h.third) h.fourth) h.fifth)
    h.sixth

abbrev pub TypeTests : Types → Procs → Type 0
TypeTests t ps =
    SixTests (differ bytes_eq (names_of t)) (all_sound t t) (all_end t t)
    (differ bytes_eq (map (λ (p : Procedure). p.name) ps)) (differ nat_eq (map (λ (p : Procedure). p.opcode) ps))
    (procs_sound t ps)

-- the tests of a sound interface
pub tests : (t : Types) (ps : Procs) → is_sound t ps ≡ true → TypeTests t ps
unfolding is_sound
tests t ps h = six _ _ _ _ _ _ h

pub sound_says : (t : Types) (ps : Procs) → (is_sound t ps ≡ true) ↔ IsSound t ps
unfolding is_sound
sound_says t ps = (
  λ h.
      let w = tests t ps h in
      record {
        types_differ = distinct bytes_eq (names_of t) w.first;
        forms = (forms_are t t).0 w.second;
        endless = none_endless t w.third;
        procs_differ = distinct bytes_eq (map (λ (p : Procedure). p.name) ps) w.fourth;
        opcodes_differ = distinct nat_eq (map (λ (p : Procedure). p.opcode) ps) w.fifth;
        procs = (procs_are t ps).0 w.sixth;
      },
  λ h. from_six _ _ _ _ _ _ (record {
    first = differs bytes_eq (names_of t) h.types_differ;
    second = (forms_are t t).1 h.forms;
    third = all_will_end t (λ s f e. form_known t f (of_found (FormIsSound t) t s f h.forms e)) h.endless;
    fourth = differs bytes_eq (map (λ (p : Procedure). p.name) ps) h.procs_differ;
    fifth = differs nat_eq (map (λ (p : Procedure). p.opcode) ps) h.opcodes_differ;
    sixth = (procs_are t ps).1 h.procs;
  }),
)
