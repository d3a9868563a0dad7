-- The tests that compute what an interface keeps; the law `sound_is` says that they ask for its facts. Public clauses
-- cite `is_known` and `is_sound`.
use Rattle.std.specs.Prelude.{ℕ, ℤ, zero, suc, ◌^◌, Bool, true, false, ◌&&◌, ◌||◌, not, nat_eq, List, [], ◌∷◌, length}
use Rattle.std.specs.Prelude.{Option, Some, None, is_some, map}
use Rattle.std.specs.Str.{bytes_eq}
use Rattle.xdr_value.specs.Data.{Kind, basic, array, array_up_to, maybe, named, Part, Choice, Form, alias, enum, struct}
use Rattle.xdr_value.specs.Data.{choice, Types, Param, Procedure, Procs}
use Rattle.xdr_value.specs.Ranges.{is_below, is_within, has_number}
use Rattle.xdr_value.specs.Heads.{Tag, tag_int, tag_uint, tag_bool, tag_enum, tag_other, tag_of, head_of, form_named}
use Rattle.xdr_value.specs.Heads.{arm_kind}
use Rattle.xdr_value.specs.Hollow.{core}
use Rattle.xdr_value.specs.Facts.{part_kinds, form_kinds, same_case, names_of}

-- x is one of the list, by the test e
unfoldable pub has_one : {K : Type 0} → (K → K → Bool) → K → List K → Bool
has_one e x [] = false
has_one e x (y ∷ ys) = e x y || has_one e x ys

-- none is equal to one after it
unfoldable pub differ : {K : Type 0} → (K → K → Bool) → List K → Bool
differ e [] = true
differ e (x ∷ xs) = not (has_one e x xs) && differ e xs

-- each name in the type is defined
abbrev pub is_known : Types → Kind → Bool
is_known t (basic b) = true
is_known t (array k n) = is_known t k
is_known t (array_up_to k n) = is_known t k
is_known t (maybe k) = is_known t k
is_known t (named s) = is_some (form_named s t)

-- each name in each of the types is defined
abbrev pub kinds_known : Types → List Kind → Bool
kinds_known t [] = true
kinds_known t (k ∷ ks) = is_known t k && kinds_known t ks

-- what a type holds itself, other than through optional data and variable arrays, has ended
abbrev pub core_ends : (List ℕ → Bool) → Kind → Bool
core_ends held (basic b) = true
core_ends held (array k n) = true
core_ends held (array_up_to k n) = true
core_ends held (maybe k) = true
core_ends held (named s) = held s

-- the same of several types
abbrev pub kinds_end : (List ℕ → Bool) → List Kind → Bool
kinds_end held [] = true
kinds_end held (k ∷ ks) = core_ends held (core k) && kinds_end held ks

-- a name is defined, and what it stands for holds only types that have ended
abbrev pub form_ends : (List ℕ → Bool) → Option Form → Bool
form_ends held None = false
form_ends held (Some f) = kinds_end held (form_kinds f)

-- no chain of names that hold one another is as long as n
unfoldable pub name_ends : ℕ → Types → List ℕ → Bool
name_ends zero t s = false
name_ends (suc n) t s = form_ends (name_ends n t) (form_named s t)

-- each type ends
abbrev pub all_end : Types → Types → Bool
all_end t [] = true
all_end t (d ∷ ds) = name_ends (length t) t d.0 && all_end t ds

-- enums and unions

-- each member's number is an int
abbrev pub members_in_range : List (List ℕ × ℤ) → Bool
members_in_range [] = true
members_in_range (m ∷ ms) = is_within (2 ^ 31) m.1 && members_in_range ms

-- the number is one of the tag's type
abbrev pub case_in_range : Tag → ℤ → Bool
case_in_range tag_int z = is_within (2 ^ 31) z
case_in_range tag_uint z = is_below (2 ^ 32) z
case_in_range tag_bool z = is_below 2 z
case_in_range (tag_enum ms) z = has_number ms z
case_in_range tag_other z = false

-- the arm's case is one, where it has a case
abbrev pub arm_in_range : Tag → Option ℤ → Bool
arm_in_range tag None = true
arm_in_range tag (Some z) = case_in_range tag z

-- each arm's case is one
abbrev pub arms_in_range : Tag → List Choice → Bool
arms_in_range tag [] = true
arms_in_range tag (c ∷ cs) = arm_in_range tag c.case && arms_in_range tag cs

-- a union may have such a tag
abbrev pub is_tag : Tag → Bool
is_tag tag_int = true
is_tag tag_uint = true
is_tag tag_bool = true
is_tag (tag_enum ms) = true
is_tag tag_other = false

-- the list has one at least
abbrev pub is_filled : {X : Type 0} → List X → Bool
is_filled [] = false
is_filled (x ∷ xs) = true

-- a definition

-- what a name stands for has the facts of its form
abbrev pub form_sound : Types → Form → Bool
form_sound t (alias k) = is_known t k
form_sound t (enum ms) = is_filled ms && differ bytes_eq (names_of ms) && members_in_range ms
form_sound t (struct ps) = kinds_known t (part_kinds ps) && differ bytes_eq (map (λ (p : Part). p.name) ps)
form_sound t (choice k cs) =
    is_filled cs && (is_known t k && kinds_known t (map arm_kind cs)) && is_tag (tag_of (head_of t k))
    && differ same_case (map (λ (c : Choice). c.case) cs) && arms_in_range (tag_of (head_of t k)) cs

-- so has each definition
abbrev pub all_sound : Types → Types → Bool
all_sound t [] = true
all_sound t (d ∷ ds) = form_sound t d.1 && all_sound t ds

-- a procedure

-- each argument's type has only names that are defined
abbrev pub params_known : Types → List Param → Bool
params_known t [] = true
params_known t (p ∷ ps) = is_known t p.kind && params_known t ps

-- a procedure's types are known, and its arguments' names differ
abbrev pub proc_sound : Types → Procedure → Bool
proc_sound t p = params_known t p.params && differ bytes_eq (map (λ (a : Param). a.name) p.params)

-- each procedure is so
abbrev pub procs_sound : Types → Procs → Bool
procs_sound t [] = true
procs_sound t (p ∷ ps) = proc_sound t p && procs_sound t ps

-- an interface may have these
unfoldable pub is_sound : Types → Procs → Bool
is_sound t ps =
    differ bytes_eq (names_of t) && all_sound t t && all_end t t
    && differ bytes_eq (map (λ (p : Procedure). p.name) ps) && differ nat_eq (map (λ (p : Procedure). p.opcode) ps) &&
    procs_sound t ps
