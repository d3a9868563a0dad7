-- The zero value of each type. Public clauses cite this module.
use Rattle.std.specs.Prelude.{ℕ, ℤ, zero, suc, false, List, [], ◌∷◌, length, replicate, Option, Some, None}
use Rattle.std.specs.Ordering.{int_eq}
use lib.IntN.{pos}
use Rattle.xdr_value.specs.declared.ty.Basic.{Basic}
use Rattle.xdr_value.specs.declared.ty.Basic.TheVariants as basics
use Rattle.xdr_value.specs.Data.{Kind, basic, array, array_up_to, maybe, named, Part, Choice, Form, alias, enum, struct}
use Rattle.xdr_value.specs.Data.{choice, Types, Datum, number, flag, octets, items, union, none, nothing, Data, end}
use Rattle.xdr_value.specs.Data.{more}
use Rattle.xdr_value.specs.Heads.{Tag, tag_int, tag_uint, tag_bool, tag_enum, tag_other, tag_of, head_of, form_named}
use Rattle.xdr_value.specs.Heads.{arm_of, arm_kind}
use Rattle.xdr_value.specs.Hollow.{core}

-- n times the value
abbrev pub copies : ℕ → Datum → Data
copies zero d = end
copies (suc n) d = more d (copies n d)

-- the fixed arrays round a value
abbrev pub wrapped : Kind → Datum → Datum
wrapped (basic b) d = d
wrapped (array k n) d = items (copies n (wrapped k d))
wrapped (array_up_to k n) d = d
wrapped (maybe k) d = d
wrapped (named s) d = d

-- 0, false, zero bytes, and an empty variable form
abbrev pub basic_zero : Basic → Datum
basic_zero basics.Int = number (pos 0)
basic_zero basics.Uint = number (pos 0)
basic_zero basics.Hyper = number (pos 0)
basic_zero basics.Uhyper = number (pos 0)
basic_zero basics.Short = number (pos 0)
basic_zero basics.Ushort = number (pos 0)
basic_zero basics.Char = number (pos 0)
basic_zero basics.Uchar = number (pos 0)
basic_zero basics.Bool = flag false
basic_zero basics.Void = nothing
basic_zero (basics.Opaque n) = octets (replicate n 0)
basic_zero (basics.OpaqueUpTo n) = octets []
basic_zero (basics.Text n) = octets []

-- what no fixed array holds, where held gives what names stand for
abbrev pub core_zero : (List ℕ → Datum) → Kind → Datum
core_zero held (basic b) = basic_zero b
core_zero held (array k n) = nothing
core_zero held (array_up_to k n) = items end
core_zero held (maybe k) = none
core_zero held (named s) = held s

-- the zero of the type, where held gives what names stand for
abbrev pub kind_zero : (List ℕ → Datum) → Kind → Datum
kind_zero held k = wrapped k (core_zero held (core k))

-- the zero of each field
abbrev pub parts_zero : (List ℕ → Datum) → List Part → Data
parts_zero held [] = end
parts_zero held (p ∷ ps) = more (kind_zero held p.kind) (parts_zero held ps)

-- the first member
abbrev pub first_number : List (List ℕ × ℤ) → ℤ
first_number [] = pos 0
first_number (m ∷ ms) = m.1

-- the number of the tag's zero, which of an enum is its first member
abbrev pub tag_zero : Tag → ℤ
tag_zero tag_int = pos 0
tag_zero tag_uint = pos 0
tag_zero tag_bool = pos 0
tag_zero (tag_enum ms) = first_number ms
tag_zero tag_other = pos 0

-- the number of the first case, or else of the tag's zero
abbrev pub case_or : Option ℤ → ℤ → ℤ
case_or None z = z
case_or (Some case) z = case

-- the number that a zero's tag has
abbrev pub first_case : Tag → List Choice → ℤ
first_case tag [] = tag_zero tag
first_case tag (c ∷ cs) = case_or c.case (first_case tag cs)

-- the tag with the number
abbrev pub tag_value : Tag → ℤ → Datum
tag_value tag_int z = number z
tag_value tag_uint z = number z
tag_value tag_bool z = flag (int_eq z (pos 1))
tag_value (tag_enum ms) z = number z
tag_value tag_other z = number z

-- the zero of what the chosen arm holds
abbrev pub arm_zero : (List ℕ → Datum) → Option Choice → Datum
arm_zero held None = nothing
arm_zero held (Some c) = kind_zero held (arm_kind c)

-- the tag of the first case with the zero of its arm
abbrev pub union_zero : (List ℕ → Datum) → Tag → List Choice → Datum
union_zero held tag cs = union (tag_value tag (first_case tag cs)) (arm_zero held (arm_of (first_case tag cs) cs))

-- the zero of what a name stands for
abbrev pub form_zero : Types → (List ℕ → Datum) → Option Form → Datum
form_zero t held None = nothing
form_zero t held (Some (alias k)) = kind_zero held k
form_zero t held (Some (enum ms)) = number (first_number ms)
form_zero t held (Some (struct ps)) = items (parts_zero held ps)
form_zero t held (Some (choice k cs)) = union_zero held (tag_of (head_of t k)) cs

-- where at most n names are followed
unfoldable pub name_zero : ℕ → Types → List ℕ → Datum
name_zero zero t s = nothing
name_zero (suc n) t s = form_zero t (name_zero n t) (form_named s t)

-- the zero value of the type
unfoldable pub zero_of : Types → Kind → Datum
zero_of t k = kind_zero (name_zero (length t) t) k
