-- Which values a type has, and how deep a value is. Public clauses cite this module.
use Rattle.std.specs.Prelude.{◌≡◌, ℕ, ℤ, suc, ◌≤◌, ◌<◌, ◌^◌, max, List, [], ◌∷◌, length, ⊤, true, false, Option, Some}
use Rattle.std.specs.Prelude.{None}
use Rattle.xdr_value.specs.Ranges.{IsBelow, IsWithin, has_number}
use lib.IntN.{pos}
use Rattle.xdr_value.specs.declared.ty.Basic.TheVariants as basics
use Rattle.xdr_value.specs.Data.{Kind, Part, Choice, Datum, number, flag, octets, items, union, none, some, nothing}
use Rattle.xdr_value.specs.Data.{Data, end, more, Types}
use Rattle.xdr_value.specs.Heads.{Tag, tag_int, tag_uint, tag_bool, tag_enum, Head, is_basic, is_enum, is_struct}
use Rattle.xdr_value.specs.Heads.{is_union, is_array, is_array_up_to, is_maybe, head_of, arm_of, arm_kind}
use Rattle.xdr_value.specs.Hollow.{list_limit}

-- how many values
abbrev pub count : Data → ℕ
count end = 0
count (more v vs) = suc (count vs)

-- the numbers of a type: RFC 4506, sections 4.1 to 4.3 and 4.5
abbrev pub NumberFits : Head → ℤ → Type 0
NumberFits (is_basic basics.Int) z = IsWithin (2 ^ 31) z
NumberFits (is_basic basics.Uint) z = IsBelow (2 ^ 32) z
NumberFits (is_basic basics.Hyper) z = IsWithin (2 ^ 63) z
NumberFits (is_basic basics.Uhyper) z = IsBelow (2 ^ 64) z
NumberFits (is_basic basics.Short) z = IsWithin (2 ^ 15) z
NumberFits (is_basic basics.Ushort) z = IsBelow (2 ^ 16) z
NumberFits (is_basic basics.Char) z = IsWithin (2 ^ 7) z
NumberFits (is_basic basics.Uchar) z = IsBelow (2 ^ 8) z
NumberFits (is_enum ms) z = IsWithin (2 ^ 31) z × (has_number ms z ≡ true)
NumberFits _ z = ⊥

-- RFC 4506, section 4.4
abbrev pub FlagFits : Head → Type 0
FlagFits (is_basic basics.Bool) = ⊤
FlagFits _ = ⊥

-- RFC 4506, sections 4.9 to 4.11
abbrev pub OctetsFit : Head → List ℕ → Type 0
OctetsFit (is_basic (basics.Opaque n)) bytes = length bytes ≡ n
OctetsFit (is_basic (basics.OpaqueUpTo n)) bytes = (length bytes ≤ n) × (length bytes < 2 ^ 32)
OctetsFit (is_basic (basics.Text n)) bytes = (length bytes ≤ n) × (length bytes < 2 ^ 32)
OctetsFit _ bytes = ⊥

-- RFC 4506, section 4.16
abbrev pub NothingFits : Head → Type 0
NothingFits (is_basic basics.Void) = ⊤
NothingFits _ = ⊥

-- parts of a struct (RFC 4506, section 4.14), or n elements of an array (sections 4.12 and 4.13)
abbrev pub ItemsFit : Types → Head → (List Part → Type 0) → (Kind → Type 0) → ℕ → Type 0
ItemsFit t (is_struct ps) parts all n = parts ps
ItemsFit t (is_array k m) parts all n = (n ≡ m) × all k
ItemsFit t (is_array_up_to k m) parts all n = (n ≤ list_limit t k m) × (n < 2 ^ 32) × all k
ItemsFit t _ parts all n = ⊥

-- RFC 4506, section 4.19
abbrev pub MaybeFits : Head → (Kind → Type 0) → Type 0
MaybeFits (is_maybe k) inner = inner k
MaybeFits _ inner = ⊥

-- the value is one of the tag's type
abbrev pub TagFits : Tag → Datum → Type 0
TagFits tag_int (number z) = IsWithin (2 ^ 31) z
TagFits tag_uint (number z) = IsBelow (2 ^ 32) z
TagFits tag_bool (flag b) = ⊤
TagFits (tag_enum ms) (number z) = IsWithin (2 ^ 31) z × (has_number ms z ≡ true)
TagFits _ _ = ⊥

-- the number by which a tag chooses its arm: that of a bool is 0 or 1
abbrev pub tag_number : Datum → ℤ
tag_number (number z) = z
tag_number (flag false) = pos 0
tag_number (flag true) = pos 1
tag_number (octets bytes) = pos 0
tag_number (items vs) = pos 0
tag_number (union tag arm) = pos 0
tag_number none = pos 0
tag_number (some v) = pos 0
tag_number nothing = pos 0

-- the arm that was chosen has it
abbrev pub ArmFits : Option Choice → (Kind → Type 0) → Type 0
ArmFits None inner = ⊥
ArmFits (Some c) inner = inner (arm_kind c)

-- RFC 4506, section 4.15
abbrev pub UnionFits : Head → Datum → (Kind → Type 0) → Type 0
UnionFits (is_union tag cs) d inner = TagFits tag d × ArmFits (arm_of (tag_number d) cs) inner
UnionFits _ d inner = ⊥

abbrev mutual
  -- the value is one of the type
  pub Fits : Types → Kind → Datum → Type 0
  Fits t k (number z) = NumberFits (head_of t k) z
  Fits t k (flag b) = FlagFits (head_of t k)
  Fits t k (octets bytes) = OctetsFit (head_of t k) bytes
  Fits t k (items vs) = ItemsFit t (head_of t k) (λ ps. PartsFit t ps vs) (λ e. AllFit t e vs) (count vs)
  Fits t k (union tag arm) = UnionFits (head_of t k) tag (λ e. Fits t e arm)
  Fits t k none = MaybeFits (head_of t k) (λ e. ⊤)
  Fits t k (some v) = MaybeFits (head_of t k) (λ e. Fits t e v)
  Fits t k nothing = NothingFits (head_of t k)

  -- one value for each field
  pub PartsFit : Types → List Part → Data → Type 0
  PartsFit t [] end = ⊤
  PartsFit t [] (more v vs) = ⊥
  PartsFit t (p ∷ ps) end = ⊥
  PartsFit t (p ∷ ps) (more v vs) = Fits t p.kind v × PartsFit t ps vs

  -- each is one of the type
  pub AllFit : Types → Kind → Data → Type 0
  AllFit t k end = ⊤
  AllFit t k (more v vs) = Fits t k v × AllFit t k vs

-- structs, unions, arrays and optional data within one another; a tag is no level
abbrev mutual
  -- how many levels a value has at its deepest
  pub depth : Datum → ℕ
  depth (number z) = 0
  depth (flag b) = 0
  depth (octets bytes) = 0
  depth (items vs) = suc (depths vs)
  depth (union tag arm) = suc (depth arm)
  depth none = 1
  depth (some v) = suc (depth v)
  depth nothing = 0

  -- the same of several values
  pub depths : Data → ℕ
  depths end = 0
  depths (more v vs) = max (depth v) (depths vs)
