-- The test of `fits` says yes exactly where the value is one of the type.
use Rattle.std.proofs.Common.{◌≡◌, ◌↔◌, ℕ, ℤ, ◌^◌, ◌≤◌, ◌<◌, Bool, true, ◌&&◌, eqb, leb, ltb, List, [], ◌∷◌, length}
use Rattle.std.proofs.Common.{Option, Some, None}
use Rattle.std.proofs.lemmas.Bool.{leb-true, le-leb, ltb-true, lt-ltb, eqb-true, eq-eqb, and_parts, and_from}
use Rattle.xdr_value.specs.declared.ty.Basic.TheVariants as basics
use Rattle.xdr_value.specs.Data.{Kind, Part, Choice, Datum, number, flag, octets, items, union, none, some, nothing}
use Rattle.xdr_value.specs.Data.{Data, end, more, Types}
use Rattle.xdr_value.specs.Ranges.{IsWithin, is_within, has_number}
use Rattle.xdr_value.specs.Heads.{Tag, tag_int, tag_uint, tag_bool, tag_enum, tag_other, Head, is_basic, is_enum}
use Rattle.xdr_value.specs.Heads.{is_struct, is_union, is_array, is_array_up_to, is_maybe, is_unknown, head_of, arm_of}
use Rattle.xdr_value.specs.Heads.{arm_kind}
use Rattle.xdr_value.specs.Hollow.{list_limit}
use Rattle.xdr_value.specs.Fits.{Fits, PartsFit, AllFit, NumberFits, FlagFits, OctetsFit, NothingFits, ItemsFit}
use Rattle.xdr_value.specs.Fits.{MaybeFits, TagFits, ArmFits, UnionFits, count, tag_number}
use Rattle.xdr_value.specs.Fitting.{does_fit, parts_fit, all_fit, number_fits, flag_fits, octets_fit, nothing_fits}
use Rattle.xdr_value.specs.Fitting.{items_fit, maybe_fits, tag_fits, arm_fits, union_fits}
use Rattle.xdr_value.proofs.Tells.{never, always, both, below, within}

member : (ms : List (List ℕ × ℤ)) (z : ℤ)
    → ((is_within (2 ^ 31) z && has_number ms z) ≡ true) ↔ (IsWithin (2 ^ 31) z × (has_number ms z ≡ true))
member ms z = both (is_within (2 ^ 31) z) (has_number ms z) (IsWithin (2 ^ 31) z) (has_number ms z ≡ true)
    (within (2 ^ 31) z) (λ h. h, λ h. h)

number_is : (h : Head) (z : ℤ) → (number_fits h z ≡ true) ↔ NumberFits h z
number_is (is_basic basics.Int) z = within (2 ^ 31) z
number_is (is_basic basics.Uint) z = below (2 ^ 32) z
number_is (is_basic basics.Hyper) z = within (2 ^ 63) z
number_is (is_basic basics.Uhyper) z = below (2 ^ 64) z
number_is (is_basic basics.Short) z = within (2 ^ 15) z
number_is (is_basic basics.Ushort) z = below (2 ^ 16) z
number_is (is_basic basics.Char) z = within (2 ^ 7) z
number_is (is_basic basics.Uchar) z = below (2 ^ 8) z
number_is (is_basic basics.Bool) z = never
number_is (is_basic basics.Void) z = never
number_is (is_basic (basics.Opaque n)) z = never
number_is (is_basic (basics.OpaqueUpTo n)) z = never
number_is (is_basic (basics.Text n)) z = never
number_is (is_enum ms) z = member ms z
number_is (is_struct ps) z = never
number_is (is_union tag cs) z = never
number_is (is_array k m) z = never
number_is (is_array_up_to k m) z = never
number_is (is_maybe k) z = never
number_is is_unknown z = never

flag_is : (h : Head) → (flag_fits h ≡ true) ↔ FlagFits h
flag_is (is_basic basics.Int) = never
flag_is (is_basic basics.Uint) = never
flag_is (is_basic basics.Hyper) = never
flag_is (is_basic basics.Uhyper) = never
flag_is (is_basic basics.Short) = never
flag_is (is_basic basics.Ushort) = never
flag_is (is_basic basics.Char) = never
flag_is (is_basic basics.Uchar) = never
flag_is (is_basic basics.Bool) = always
flag_is (is_basic basics.Void) = never
flag_is (is_basic (basics.Opaque n)) = never
flag_is (is_basic (basics.OpaqueUpTo n)) = never
flag_is (is_basic (basics.Text n)) = never
flag_is (is_enum ms) = never
flag_is (is_struct ps) = never
flag_is (is_union tag cs) = never
flag_is (is_array k m) = never
flag_is (is_array_up_to k m) = never
flag_is (is_maybe k) = never
flag_is is_unknown = never

nothing_is : (h : Head) → (nothing_fits h ≡ true) ↔ NothingFits h
nothing_is (is_basic basics.Int) = never
nothing_is (is_basic basics.Uint) = never
nothing_is (is_basic basics.Hyper) = never
nothing_is (is_basic basics.Uhyper) = never
nothing_is (is_basic basics.Short) = never
nothing_is (is_basic basics.Ushort) = never
nothing_is (is_basic basics.Char) = never
nothing_is (is_basic basics.Uchar) = never
nothing_is (is_basic basics.Bool) = never
nothing_is (is_basic basics.Void) = always
nothing_is (is_basic (basics.Opaque n)) = never
nothing_is (is_basic (basics.OpaqueUpTo n)) = never
nothing_is (is_basic (basics.Text n)) = never
nothing_is (is_enum ms) = never
nothing_is (is_struct ps) = never
nothing_is (is_union tag cs) = never
nothing_is (is_array k m) = never
nothing_is (is_array_up_to k m) = never
nothing_is (is_maybe k) = never
nothing_is is_unknown = never

at_most : (m n : ℕ) → ((leb m n && ltb m (2 ^ 32)) ≡ true) ↔ ((m ≤ n) × (m < 2 ^ 32))
at_most m n = both (leb m n) (ltb m (2 ^ 32)) (m ≤ n) (m < 2 ^ 32) (leb-true m n, le-leb m n)
    (ltb-true m (2 ^ 32), lt-ltb m (2 ^ 32))

octets_are : (h : Head) (c : List ℕ) → (octets_fit h (length c) ≡ true) ↔ OctetsFit h c
octets_are (is_basic basics.Int) c = never
octets_are (is_basic basics.Uint) c = never
octets_are (is_basic basics.Hyper) c = never
octets_are (is_basic basics.Uhyper) c = never
octets_are (is_basic basics.Short) c = never
octets_are (is_basic basics.Ushort) c = never
octets_are (is_basic basics.Char) c = never
octets_are (is_basic basics.Uchar) c = never
octets_are (is_basic basics.Bool) c = never
octets_are (is_basic basics.Void) c = never
octets_are (is_basic (basics.Opaque n)) c = (eqb-true (length c) n, eq-eqb (length c) n)
octets_are (is_basic (basics.OpaqueUpTo n)) c = at_most (length c) n
octets_are (is_basic (basics.Text n)) c = at_most (length c) n
octets_are (is_enum ms) c = never
octets_are (is_struct ps) c = never
octets_are (is_union tag cs) c = never
octets_are (is_array k m) c = never
octets_are (is_array_up_to k m) c = never
octets_are (is_maybe k) c = never
octets_are is_unknown c = never

tag_is : (tag : Tag) (d : Datum) → (tag_fits tag d ≡ true) ↔ TagFits tag d
tag_is tag_int (number z) = within (2 ^ 31) z
tag_is tag_uint (number z) = below (2 ^ 32) z
tag_is tag_bool (number z) = never
tag_is (tag_enum ms) (number z) = member ms z
tag_is tag_other (number z) = never
tag_is tag_int (flag b) = never
tag_is tag_uint (flag b) = never
tag_is tag_bool (flag b) = always
tag_is (tag_enum ms) (flag b) = never
tag_is tag_other (flag b) = never
tag_is tag_int (octets c) = never
tag_is tag_uint (octets c) = never
tag_is tag_bool (octets c) = never
tag_is (tag_enum ms) (octets c) = never
tag_is tag_other (octets c) = never
tag_is tag_int (items vs) = never
tag_is tag_uint (items vs) = never
tag_is tag_bool (items vs) = never
tag_is (tag_enum ms) (items vs) = never
tag_is tag_other (items vs) = never
tag_is tag_int (union d e) = never
tag_is tag_uint (union d e) = never
tag_is tag_bool (union d e) = never
tag_is (tag_enum ms) (union d e) = never
tag_is tag_other (union d e) = never
tag_is tag_int none = never
tag_is tag_uint none = never
tag_is tag_bool none = never
tag_is (tag_enum ms) none = never
tag_is tag_other none = never
tag_is tag_int (some d) = never
tag_is tag_uint (some d) = never
tag_is tag_bool (some d) = never
tag_is (tag_enum ms) (some d) = never
tag_is tag_other (some d) = never
tag_is tag_int nothing = never
tag_is tag_uint nothing = never
tag_is tag_bool nothing = never
tag_is (tag_enum ms) nothing = never
tag_is tag_other nothing = never

arm_is : (o : Option Choice) (f : Kind → Bool) (P : Kind → Type 0) → ((k : Kind) → (f k ≡ true) ↔ P k)
    → (arm_fits o f ≡ true) ↔ ArmFits o P
arm_is None f P go = never
arm_is (Some c) f P go = go (arm_kind c)

union_is : (h : Head) (d : Datum) (f : Kind → Bool) (P : Kind → Type 0) → ((k : Kind) → (f k ≡ true) ↔ P k)
    → (union_fits h d f ≡ true) ↔ UnionFits h d P
union_is (is_union tag cs) d f P go =
    both (tag_fits tag d) (arm_fits (arm_of (tag_number d) cs) f) (TagFits tag d)
    (ArmFits (arm_of (tag_number d) cs) P) (tag_is tag d) (arm_is (arm_of (tag_number d) cs) f P go)
union_is (is_basic b) d f P go = never
union_is (is_enum ms) d f P go = never
union_is (is_struct ps) d f P go = never
union_is (is_array k m) d f P go = never
union_is (is_array_up_to k m) d f P go = never
union_is (is_maybe k) d f P go = never
union_is is_unknown d f P go = never

maybe_is : (h : Head) (f : Kind → Bool) (P : Kind → Type 0) → ((k : Kind) → (f k ≡ true) ↔ P k)
    → (maybe_fits h f ≡ true) ↔ MaybeFits h P
maybe_is (is_maybe k) f P go = go k
maybe_is (is_basic b) f P go = never
maybe_is (is_enum ms) f P go = never
maybe_is (is_struct ps) f P go = never
maybe_is (is_union tag cs) f P go = never
maybe_is (is_array k m) f P go = never
maybe_is (is_array_up_to k m) f P go = never
maybe_is is_unknown f P go = never

counted : (n m : ℕ) (b : Bool) (B : Type 0) → ((b ≡ true) ↔ B)
    → ((leb n m && ltb n (2 ^ 32) && b) ≡ true) ↔ ((n ≤ m) × (n < 2 ^ 32) × B)
counted n m b B go = (
  λ h. let p = and_parts (leb n m && ltb n (2 ^ 32)) b h in let q = (at_most n m).0 p.0 in (q.0, q.1, go.0 p.1),
  λ h. and_from (leb n m && ltb n (2 ^ 32)) b ((at_most n m).1 (h.0, h.1)) (go.1 h.2),
)

items_are : (t : Types) (h : Head) (n : ℕ) (f : List Part → Bool) (P : List Part → Type 0) (g : Kind → Bool)
    (Q : Kind → Type 0)
    → ((ps : List Part) → (f ps ≡ true) ↔ P ps) → ((k : Kind) → (g k ≡ true) ↔ Q k)
    → (items_fit t h f g n ≡ true) ↔ ItemsFit t h P Q n
items_are t (is_struct ps) n f P g Q parts all = parts ps
items_are t (is_array k m) n f P g Q parts all = both (eqb n m) (g k) (n ≡ m) (Q k) (eqb-true n m, eq-eqb n m) (all k)
items_are t (is_array_up_to k m) n f P g Q parts all = counted n (list_limit t k m) (g k) (Q k) (all k)
items_are t (is_basic b) n f P g Q parts all = never
items_are t (is_enum ms) n f P g Q parts all = never
items_are t (is_union tag cs) n f P g Q parts all = never
items_are t (is_maybe k) n f P g Q parts all = never
items_are t is_unknown n f P g Q parts all = never

mutual
  pub fits_is : (t : Types) (k : Kind) (d : Datum) → (does_fit t k d ≡ true) ↔ Fits t k d
  fits_is t k (number z) = number_is (head_of t k) z
  fits_is t k (flag b) = flag_is (head_of t k)
  fits_is t k (octets c) = octets_are (head_of t k) c
  fits_is t k (items vs) =
      items_are t (head_of t k) (count vs) (λ ps. parts_fit t ps vs) (λ ps. PartsFit t ps vs) (λ e. all_fit t e vs)
      (λ e. AllFit t e vs) (λ ps. parts_are t ps vs) (λ e. all_are t e vs)
  fits_is t k (union tag arm) = union_is (head_of t k) tag (λ e. does_fit t e arm) (λ e. Fits t e arm)
      (λ e. fits_is t e arm)
  fits_is t k none = maybe_is (head_of t k) (λ e. true) (λ e. Unit {0}) (λ e. always)
  fits_is t k (some v) = maybe_is (head_of t k) (λ e. does_fit t e v) (λ e. Fits t e v) (λ e. fits_is t e v)
  fits_is t k nothing = nothing_is (head_of t k)

  parts_are : (t : Types) (ps : List Part) (vs : Data) → (parts_fit t ps vs ≡ true) ↔ PartsFit t ps vs
  parts_are t [] end = always
  parts_are t [] (more v vs) = never
  parts_are t (p ∷ ps) end = never
  parts_are t (p ∷ ps) (more v vs) = both (does_fit t p.kind v) (parts_fit t ps vs) (Fits t p.kind v)
      (PartsFit t ps vs) (fits_is t p.kind v) (parts_are t ps vs)

  all_are : (t : Types) (k : Kind) (vs : Data) → (all_fit t k vs ≡ true) ↔ AllFit t k vs
  all_are t k end = always
  all_are t k (more v vs) = both (does_fit t k v) (all_fit t k vs) (Fits t k v) (AllFit t k vs) (fits_is t k v)
      (all_are t k vs)
