-- What an interface keeps of its types and procedures, in plain words. Public clauses cite this module.
use Rattle.std.specs.Prelude.{◌≡◌, ◌≢◌, ℕ, ℤ, ◌^◌, Bool, true, false, nat_eq, List, [], ◌∷◌, Option, Some, None, map}
use Rattle.std.specs.Prelude.{◌⊎◌}
use Rattle.std.specs.Ordering.{int_eq}
use Rattle.std.specs.Str.{bytes_eq}
use Rattle.std.specs.List.{AllByRecursion, IsDistinct}
use Rattle.xdr_value.specs.Data.{Kind, basic, array, array_up_to, maybe, named, Part, Choice, Form, alias, enum, struct}
use Rattle.xdr_value.specs.Data.{choice, Types, Param, Procedure, Procs}
use Rattle.xdr_value.specs.Heads.{Tag, tag_int, tag_uint, tag_bool, tag_enum, tag_other, tag_of, head_of, form_named}
use Rattle.xdr_value.specs.Heads.{arm_kind}
use Rattle.xdr_value.specs.Hollow.{core}
use Rattle.xdr_value.specs.Ranges.{IsBelow, IsWithin, has_number}

-- the name is defined
abbrev pub IsDefined : Types → List ℕ → Type 0
IsDefined t s = (f : Form) × (form_named s t ≡ Some f)

-- each name in the type is defined
abbrev pub IsKnown : Types → Kind → Type 0
IsKnown t (basic b) = Unit {0}
IsKnown t (array k n) = IsKnown t k
IsKnown t (array_up_to k n) = IsKnown t k
IsKnown t (maybe k) = IsKnown t k
IsKnown t (named s) = IsDefined t s

-- the types of the fields
abbrev pub part_kinds : List Part → List Kind
part_kinds ps = map (λ (p : Part). p.kind) ps

-- the types that stand in a definition
abbrev pub form_kinds : Form → List Kind
form_kinds (alias k) = k ∷ []
form_kinds (enum ms) = []
form_kinds (struct ps) = part_kinds ps
form_kinds (choice k cs) = k ∷ map arm_kind cs

-- one of the types holds the name, other than through optional data or a variable array
abbrev pub OneHolds : List Kind → List ℕ → Type 0
OneHolds [] s = ⊥
OneHolds (k ∷ ks) s = (core k ≡ named s) ⊎ OneHolds ks s

-- the first name's type holds the second's, at once or through others, other than through optional data or a variable
-- array
pub data TypeHolds (t : Types) : List ℕ → List ℕ → Type 0 where
  at_once : (s u : List ℕ) (f : Form) → form_named s t ≡ Some f → OneHolds (form_kinds f) u → TypeHolds t s u
  through : (s u v : List ℕ) (f : Form) → form_named s t ≡ Some f → OneHolds (form_kinds f) u → TypeHolds t u v
      → TypeHolds t s v

-- the type holds itself
abbrev pub IsEndless : Types → List ℕ → Type 0
IsEndless t s = TypeHolds t s s

-- the number is one of the tag's type
abbrev pub IsCase : Tag → ℤ → Type 0
IsCase tag_int z = IsWithin (2 ^ 31) z
IsCase tag_uint z = IsBelow (2 ^ 32) z
IsCase tag_bool z = IsBelow 2 z
IsCase (tag_enum ms) z = has_number ms z ≡ true
IsCase tag_other z = ⊥

-- the default, or a number of the tag's type
abbrev pub CaseInRange : Tag → Choice → Type 0
CaseInRange tag c = (z : ℤ) → c.case ≡ Some z → IsCase tag z

-- two cases are one, as two defaults are
abbrev pub same_case : Option ℤ → Option ℤ → Bool
same_case None None = true
same_case None (Some z) = false
same_case (Some z) None = false
same_case (Some z) (Some y) = int_eq z y

-- the names of a list of things that have one each
abbrev pub names_of : {X : Type 0} → List (List ℕ × X) → List (List ℕ)
names_of {X} ds = map (λ (d : List ℕ × X). d.0) ds

-- what is asked of one definition
abbrev pub FormIsSound : Types → Form → Type 0
FormIsSound t (alias k) = IsKnown t k
FormIsSound t (enum ms) = (ms ≢ []) × IsDistinct bytes_eq (names_of ms) × AllByRecursion
    (λ (m : List ℕ × ℤ). IsWithin (2 ^ 31) m.1) ms
FormIsSound t (struct ps) = AllByRecursion (IsKnown t) (part_kinds ps) × IsDistinct bytes_eq
    (map (λ (p : Part). p.name) ps)
FormIsSound t (choice k cs) =
    (cs ≢ []) × AllByRecursion (IsKnown t) (k ∷ map arm_kind cs) × (tag_of (head_of t k) ≢ tag_other)
    × IsDistinct same_case (map (λ (c : Choice). c.case) cs) × AllByRecursion (CaseInRange (tag_of (head_of t k))) cs

-- what is asked of one procedure
abbrev pub ProcIsSound : Types → Procedure → Type 0
ProcIsSound t p = AllByRecursion (λ (a : Param). IsKnown t a.kind) p.params × IsDistinct bytes_eq
    (map (λ (a : Param). a.name) p.params)

-- the facts of an interface
pub record IsSound (t : Types) (ps : Procs) : Type 0 where
  pub types_differ : IsDistinct bytes_eq (names_of t)
  pub forms : AllByRecursion (λ (d : List ℕ × Form). FormIsSound t d.1) t
  pub endless : (s : List ℕ) → IsEndless t s → ⊥
  pub procs_differ : IsDistinct bytes_eq (map (λ (p : Procedure). p.name) ps)
  pub opcodes_differ : IsDistinct nat_eq (map (λ (p : Procedure). p.opcode) ps)
  pub procs : AllByRecursion (ProcIsSound t) ps
