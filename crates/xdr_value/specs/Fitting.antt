-- The test that computes `Fits`. Public clauses cite this module.
use Rattle.std.specs.Prelude.{ℕ, ℤ, ◌^◌, List, [], ◌∷◌, length, Bool, true, false, ◌&&◌, ◌==◌, nat_lt, nat_le, Option}
use Rattle.std.specs.Prelude.{Some, None}
use Rattle.xdr_value.specs.Ranges.{is_below, is_within, has_number}
use Rattle.xdr_value.specs.declared.ty.Basic.TheVariants as basics
use Rattle.xdr_value.specs.Data.{Kind, Part, Choice, Datum, number, flag, octets, items, union, none, some, nothing}
use Rattle.xdr_value.specs.Data.{Data, end, more, Types}
use Rattle.xdr_value.specs.Heads.{Tag, tag_int, tag_uint, tag_bool, tag_enum, Head, is_basic, is_enum, is_struct}
use Rattle.xdr_value.specs.Heads.{is_union, is_array, is_array_up_to, is_maybe, head_of, arm_of, arm_kind}
use Rattle.xdr_value.specs.Hollow.{list_limit}
use Rattle.xdr_value.specs.Fits.{count, tag_number}

-- the number is one of the type's
abbrev pub number_fits : Head → ℤ → Bool
number_fits (is_basic basics.Int) z = is_within (2 ^ 31) z
number_fits (is_basic basics.Uint) z = is_below (2 ^ 32) z
number_fits (is_basic basics.Hyper) z = is_within (2 ^ 63) z
number_fits (is_basic basics.Uhyper) z = is_below (2 ^ 64) z
number_fits (is_basic basics.Short) z = is_within (2 ^ 15) z
number_fits (is_basic basics.Ushort) z = is_below (2 ^ 16) z
number_fits (is_basic basics.Char) z = is_within (2 ^ 7) z
number_fits (is_basic basics.Uchar) z = is_below (2 ^ 8) z
number_fits (is_enum ms) z = is_within (2 ^ 31) z && has_number ms z
number_fits _ z = false

-- the type is bool
abbrev pub flag_fits : Head → Bool
flag_fits (is_basic basics.Bool) = true
flag_fits _ = false

-- content of the type may have so many bytes
abbrev pub octets_fit : Head → ℕ → Bool
octets_fit (is_basic (basics.Opaque n)) m = m == n
octets_fit (is_basic (basics.OpaqueUpTo n)) m = nat_le m n && nat_lt m (2 ^ 32)
octets_fit (is_basic (basics.Text n)) m = nat_le m n && nat_lt m (2 ^ 32)
octets_fit _ m = false

-- the type is void
abbrev pub nothing_fits : Head → Bool
nothing_fits (is_basic basics.Void) = true
nothing_fits _ = false

-- the values of a list are those of the type, where parts and all say whether they fit fields or an element
abbrev pub items_fit : Types → Head → (List Part → Bool) → (Kind → Bool) → ℕ → Bool
items_fit t (is_struct ps) parts all n = parts ps
items_fit t (is_array k m) parts all n = n == m && all k
items_fit t (is_array_up_to k m) parts all n = nat_le n (list_limit t k m) && nat_lt n (2 ^ 32) && all k
items_fit t _ parts all n = false

-- the type is optional data, and inner holds of what it holds
abbrev pub maybe_fits : Head → (Kind → Bool) → Bool
maybe_fits (is_maybe k) inner = inner k
maybe_fits _ inner = false

-- the value is one of the tag's type
abbrev pub tag_fits : Tag → Datum → Bool
tag_fits tag_int (number z) = is_within (2 ^ 31) z
tag_fits tag_uint (number z) = is_below (2 ^ 32) z
tag_fits tag_bool (flag b) = true
tag_fits (tag_enum ms) (number z) = is_within (2 ^ 31) z && has_number ms z
tag_fits _ _ = false

-- there is an arm, and inner holds of what it holds
abbrev pub arm_fits : Option Choice → (Kind → Bool) → Bool
arm_fits None inner = false
arm_fits (Some c) inner = inner (arm_kind c)

-- the type is a union, and its tag and its arm fit
abbrev pub union_fits : Head → Datum → (Kind → Bool) → Bool
union_fits (is_union tag cs) d inner = tag_fits tag d && arm_fits (arm_of (tag_number d) cs) inner
union_fits _ d inner = false

abbrev mutual
  -- the value is one of the type
  pub does_fit : Types → Kind → Datum → Bool
  does_fit t k (number z) = number_fits (head_of t k) z
  does_fit t k (flag b) = flag_fits (head_of t k)
  does_fit t k (octets bytes) = octets_fit (head_of t k) (length bytes)
  does_fit t k (items vs) = items_fit t (head_of t k) (λ ps. parts_fit t ps vs) (λ e. all_fit t e vs) (count vs)
  does_fit t k (union tag arm) = union_fits (head_of t k) tag (λ e. does_fit t e arm)
  does_fit t k none = maybe_fits (head_of t k) (λ e. true)
  does_fit t k (some v) = maybe_fits (head_of t k) (λ e. does_fit t e v)
  does_fit t k nothing = nothing_fits (head_of t k)

  -- one value for each field, and each fits
  pub parts_fit : Types → List Part → Data → Bool
  parts_fit t [] end = true
  parts_fit t [] (more v vs) = false
  parts_fit t (p ∷ ps) end = false
  parts_fit t (p ∷ ps) (more v vs) = does_fit t p.kind v && parts_fit t ps vs

  -- each value is one of the type
  pub all_fit : Types → Kind → Data → Bool
  all_fit t k end = true
  all_fit t k (more v vs) = does_fit t k v && all_fit t k vs
