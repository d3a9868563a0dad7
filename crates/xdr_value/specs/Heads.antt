-- What a type is once its names are followed. Public clauses cite this module.
use Rattle.std.specs.Prelude.{ℕ, ℤ, zero, suc, List, [], ◌∷◌, length, Bool, true, false, Option, Some, None}
use Rattle.std.specs.Prelude.{if◌then◌else◌}
use Rattle.std.specs.Str.{bytes_eq}
use Rattle.std.specs.Ordering.{int_eq}
use Rattle.xdr_value.specs.declared.ty.Basic.{Basic}
use Rattle.xdr_value.specs.declared.ty.Basic.TheVariants as basics
use Rattle.xdr_value.specs.Data.{Kind, basic, array, array_up_to, maybe, named, Part, Choice, Form, alias, enum, struct}
use Rattle.xdr_value.specs.Data.{choice, Types}

-- the kinds of tag that a union may have (RFC 4506, section 4.15)
pub data Tag : Type 0 where
  tag_int : Tag
  tag_uint : Tag
  tag_bool : Tag
  tag_enum : List (List ℕ × ℤ) → Tag
  tag_other : Tag

-- a type whose names were followed
pub data Head : Type 0 where
  is_basic : Basic → Head
  is_enum : List (List ℕ × ℤ) → Head
  is_struct : List Part → Head
  is_union : Tag → List Choice → Head
  is_array : Kind → ℕ → Head
  is_array_up_to : Kind → ℕ → Head
  is_maybe : Kind → Head
  is_unknown : Head

-- the tag that a type is
abbrev pub tag_of : Head → Tag
tag_of (is_basic basics.Int) = tag_int
tag_of (is_basic basics.Uint) = tag_uint
tag_of (is_basic basics.Hyper) = tag_other
tag_of (is_basic basics.Uhyper) = tag_other
tag_of (is_basic basics.Short) = tag_other
tag_of (is_basic basics.Ushort) = tag_other
tag_of (is_basic basics.Char) = tag_other
tag_of (is_basic basics.Uchar) = tag_other
tag_of (is_basic basics.Bool) = tag_bool
tag_of (is_basic basics.Void) = tag_other
tag_of (is_basic (basics.Opaque n)) = tag_other
tag_of (is_basic (basics.OpaqueUpTo n)) = tag_other
tag_of (is_basic (basics.Text n)) = tag_other
tag_of (is_enum ms) = tag_enum ms
tag_of (is_struct ps) = tag_other
tag_of (is_union tag cs) = tag_other
tag_of (is_array k n) = tag_other
tag_of (is_array_up_to k n) = tag_other
tag_of (is_maybe k) = tag_other
tag_of is_unknown = tag_other

-- what a name stands for
abbrev pub form_named : List ℕ → Types → Option Form
form_named name [] = None
form_named name (d ∷ ds) = if bytes_eq d.0 name then Some d.1 else form_named name ds

-- A name that is no alias is what it stands for; the type behind an alias, and that of a tag, is looked at by follow.
abbrev pub head_of_form : (Kind → Head) → Option Form → Head
head_of_form follow None = is_unknown
head_of_form follow (Some (alias k)) = follow k
head_of_form follow (Some (enum ms)) = is_enum ms
head_of_form follow (Some (struct ps)) = is_struct ps
head_of_form follow (Some (choice k cs)) = is_union (tag_of (follow k)) cs

-- where at most so many names are followed
unfoldable pub head_within : ℕ → Types → Kind → Head
head_within n t (basic b) = is_basic b
head_within n t (array k m) = is_array k m
head_within n t (array_up_to k m) = is_array_up_to k m
head_within n t (maybe k) = is_maybe k
head_within zero t (named s) = is_unknown
head_within (suc n) t (named s) = head_of_form (head_within n t) (form_named s t)

-- what the type is
unfoldable pub head_of : Types → Kind → Head
head_of t k = head_within (length t) t k

-- the arm has this case
abbrev pub is_case : ℤ → Option ℤ → Bool
is_case z None = false
is_case z (Some case) = int_eq case z

-- the arm is a default
abbrev pub is_default : Option ℤ → Bool
is_default None = true
is_default (Some case) = false

-- the first arm with the case
abbrev pub own_arm : ℤ → List Choice → Option Choice
own_arm z [] = None
own_arm z (c ∷ cs) = if is_case z c.case then Some c else own_arm z cs

-- the first arm without a case
abbrev pub default_arm : List Choice → Option Choice
default_arm [] = None
default_arm (c ∷ cs) = if is_default c.case then Some c else default_arm cs

-- the first, or else the other
abbrev pub or_else : Option Choice → Option Choice → Option Choice
or_else (Some c) other = Some c
or_else None other = other

-- the arm of a tag: that of its case, or else the default (RFC 4506, section 4.15)
abbrev pub arm_of : ℤ → List Choice → Option Choice
arm_of z cs = or_else (own_arm z cs) (default_arm cs)

-- the type of what an arm holds
abbrev pub part_kind : Option Part → Kind
part_kind None = basic basics.Void
part_kind (Some p) = p.kind

-- the type of what this arm holds, which is void where it has no field
abbrev pub arm_kind : Choice → Kind
arm_kind c = part_kind c.part
