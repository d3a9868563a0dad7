-- The one spelling of each value. Public clauses cite this module.
use Rattle.std.specs.Prelude.{ℕ, ℤ, ◌-◌, ◌%◌, List, [], ◌∷◌, ◌++◌, length, replicate, Bool, true, false, Option, Some}
use Rattle.std.specs.Prelude.{None}
use Rattle.std.specs.Int.{w32, w64, to_be_bytes, cast_unsigned}
use Rattle.xdr_value.specs.declared.ty.Basic.TheVariants as basics
use Rattle.xdr_value.specs.Data.{Kind, Part, Choice, Datum, number, flag, octets, items, union, none, some, nothing}
use Rattle.xdr_value.specs.Data.{Data, end, more, Types}
use Rattle.xdr_value.specs.Heads.{Head, is_basic, is_enum, is_struct, is_union, is_array, is_array_up_to, is_maybe}
use Rattle.xdr_value.specs.Heads.{is_unknown, head_of, arm_of, arm_kind}
use Rattle.xdr_value.specs.Fits.{count, tag_number}

-- four bytes, highest first
abbrev pub word : ℕ → List ℕ
word n = to_be_bytes w32 n

-- how many zero bytes follow n bytes (RFC 4506, section 3)
abbrev pub padding : ℕ → ℕ
padding n = (4 - n % 4) % 4

-- content and the zero bytes that follow it
abbrev pub padded : List ℕ → List ℕ
padded bytes = bytes ++ replicate (padding (length bytes)) 0

-- RFC 4506, sections 4.1 to 4.3 and 4.5: two's complement, in 8 bytes or in 4
abbrev pub number_spelling : Head → ℤ → List ℕ
number_spelling (is_basic basics.Int) z = word (cast_unsigned w32 z)
number_spelling (is_basic basics.Uint) z = word (cast_unsigned w32 z)
number_spelling (is_basic basics.Hyper) z = to_be_bytes w64 (cast_unsigned w64 z)
number_spelling (is_basic basics.Uhyper) z = to_be_bytes w64 (cast_unsigned w64 z)
number_spelling (is_basic basics.Short) z = word (cast_unsigned w32 z)
number_spelling (is_basic basics.Ushort) z = word (cast_unsigned w32 z)
number_spelling (is_basic basics.Char) z = word (cast_unsigned w32 z)
number_spelling (is_basic basics.Uchar) z = word (cast_unsigned w32 z)
number_spelling (is_basic basics.Bool) z = word (cast_unsigned w32 z)
number_spelling (is_basic basics.Void) z = word (cast_unsigned w32 z)
number_spelling (is_basic (basics.Opaque n)) z = word (cast_unsigned w32 z)
number_spelling (is_basic (basics.OpaqueUpTo n)) z = word (cast_unsigned w32 z)
number_spelling (is_basic (basics.Text n)) z = word (cast_unsigned w32 z)
number_spelling (is_enum ms) z = word (cast_unsigned w32 z)
number_spelling (is_struct ps) z = word (cast_unsigned w32 z)
number_spelling (is_union tag cs) z = word (cast_unsigned w32 z)
number_spelling (is_array k n) z = word (cast_unsigned w32 z)
number_spelling (is_array_up_to k n) z = word (cast_unsigned w32 z)
number_spelling (is_maybe k) z = word (cast_unsigned w32 z)
number_spelling is_unknown z = word (cast_unsigned w32 z)

-- RFC 4506, section 4.4
abbrev pub flag_spelling : Bool → List ℕ
flag_spelling false = word 0
flag_spelling true = word 1

-- RFC 4506, section 4.9, and 4.10 and 4.11 with the length first
abbrev pub octets_spelling : Head → List ℕ → List ℕ
octets_spelling (is_basic basics.Int) bytes = word (length bytes) ++ padded bytes
octets_spelling (is_basic basics.Uint) bytes = word (length bytes) ++ padded bytes
octets_spelling (is_basic basics.Hyper) bytes = word (length bytes) ++ padded bytes
octets_spelling (is_basic basics.Uhyper) bytes = word (length bytes) ++ padded bytes
octets_spelling (is_basic basics.Short) bytes = word (length bytes) ++ padded bytes
octets_spelling (is_basic basics.Ushort) bytes = word (length bytes) ++ padded bytes
octets_spelling (is_basic basics.Char) bytes = word (length bytes) ++ padded bytes
octets_spelling (is_basic basics.Uchar) bytes = word (length bytes) ++ padded bytes
octets_spelling (is_basic basics.Bool) bytes = word (length bytes) ++ padded bytes
octets_spelling (is_basic basics.Void) bytes = word (length bytes) ++ padded bytes
octets_spelling (is_basic (basics.Opaque n)) bytes = padded bytes
octets_spelling (is_basic (basics.OpaqueUpTo n)) bytes = word (length bytes) ++ padded bytes
octets_spelling (is_basic (basics.Text n)) bytes = word (length bytes) ++ padded bytes
octets_spelling (is_enum ms) bytes = word (length bytes) ++ padded bytes
octets_spelling (is_struct ps) bytes = word (length bytes) ++ padded bytes
octets_spelling (is_union tag cs) bytes = word (length bytes) ++ padded bytes
octets_spelling (is_array k n) bytes = word (length bytes) ++ padded bytes
octets_spelling (is_array_up_to k n) bytes = word (length bytes) ++ padded bytes
octets_spelling (is_maybe k) bytes = word (length bytes) ++ padded bytes
octets_spelling is_unknown bytes = word (length bytes) ++ padded bytes

-- RFC 4506, sections 4.14 and 4.12, and 4.13 with the count first
abbrev pub items_spelling : Head → (List Part → List ℕ) → (Kind → List ℕ) → ℕ → List ℕ
items_spelling (is_struct ps) parts all n = parts ps
items_spelling (is_array k m) parts all n = all k
items_spelling (is_array_up_to k m) parts all n = word n ++ all k
items_spelling _ parts all n = []

-- RFC 4506, section 4.19: a bool that is true, and the value
abbrev pub maybe_spelling : Head → (Kind → List ℕ) → List ℕ
maybe_spelling (is_maybe k) inner = word 1 ++ inner k
maybe_spelling _ inner = []

-- a tag's number in four bytes
abbrev pub tag_spelling : Datum → List ℕ
tag_spelling d = word (cast_unsigned w32 (tag_number d))

-- what the chosen arm holds
abbrev pub arm_spelling : Option Choice → (Kind → List ℕ) → List ℕ
arm_spelling None inner = []
arm_spelling (Some c) inner = inner (arm_kind c)

-- RFC 4506, section 4.15: the tag, and then its arm
abbrev pub union_spelling : Head → Datum → (Kind → List ℕ) → List ℕ
union_spelling (is_union tag cs) d inner = tag_spelling d ++ arm_spelling (arm_of (tag_number d) cs) inner
union_spelling _ d inner = []

abbrev mutual
  -- the bytes of a value of the type
  pub spelling : Types → Kind → Datum → List ℕ
  spelling t k (number z) = number_spelling (head_of t k) z
  spelling t k (flag b) = flag_spelling b
  spelling t k (octets bytes) = octets_spelling (head_of t k) bytes
  spelling t k (items vs) = items_spelling (head_of t k) (λ ps. parts_spelling t ps vs) (λ e. all_spelling t e vs)
      (count vs)
  spelling t k (union tag arm) = union_spelling (head_of t k) tag (λ e. spelling t e arm)
  spelling t k none = word 0
  spelling t k (some v) = maybe_spelling (head_of t k) (λ e. spelling t e v)
  spelling t k nothing = []

  -- the values of the fields, one after the other
  pub parts_spelling : Types → List Part → Data → List ℕ
  parts_spelling t [] vs = []
  parts_spelling t (p ∷ ps) end = []
  parts_spelling t (p ∷ ps) (more v vs) = spelling t p.kind v ++ parts_spelling t ps vs

  -- the values of a list, one after the other
  pub all_spelling : Types → Kind → Data → List ℕ
  all_spelling t k end = []
  all_spelling t k (more v vs) = spelling t k v ++ all_spelling t k vs
