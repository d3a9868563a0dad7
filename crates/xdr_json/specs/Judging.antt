-- Which value JSON is, or its first part that doesn't fit. Public clauses cite this module.
use Rattle.std.specs.Prelude.{ℕ, ℤ, zero, suc, ◌+◌, ◌^◌, ◌==◌, ◌&&◌, nat_lt, nat_le, List, [], ◌∷◌, length, codes, Bool}
use Rattle.std.specs.Prelude.{true, Option, Some, None, is_some, Result, Ok, Err, if◌then◌else◌}
use Rattle.std.specs.Ordering.{nat_cmp, match_ordering}
use Rattle.std.specs.Cmp.Lexicographic.{slice_cmp}
use Rattle.std.specs.Str.{bytes_eq}
use Rattle.hex.specs.Hex.{decode_of}
use Rattle.hex.specs.declared.error.FromHexError.{FromHexError}
use Rattle.serde_json.specs.Data.{Num, Data as Json, Items, Members}
use Rattle.serde_json.specs.Data as json
use Rattle.serde_json.specs.Find.{as_integer, get_member}
use Rattle.serde_json.specs.Events.{items_len, members_len}
use Rattle.xdr_value.specs.declared.ty.Basic.TheVariants as basics
use Rattle.xdr_value.specs.Data.{Kind, basic, array, array_up_to, maybe, named, Part, Choice, Form, alias, enum, struct}
use Rattle.xdr_value.specs.Data.{choice, Types, Datum, number, flag, octets, items, union, none, some, nothing, Data}
use Rattle.xdr_value.specs.Data.{end, more}
use Rattle.xdr_value.specs.Heads.{Tag, tag_int, tag_uint, tag_bool, tag_enum, Head, is_basic, is_enum, is_struct}
use Rattle.xdr_value.specs.Heads.{is_union, is_array, is_array_up_to, is_maybe, head_of, form_named, arm_of, arm_kind}
use Rattle.xdr_value.specs.Hollow.{list_limit}
use Rattle.xdr_value.specs.Fits.{tag_number}
use Rattle.xdr_value.specs.Fitting.{number_fits, octets_fit}
use Rattle.xdr_value.specs.Ranges.{is_below, is_within}
use Rattle.xdr_json.specs.Judged.{Judged, ◌>>=◌, misfit, below, field_step, index_step}

-- the value, where there is one
abbrev pub or_misfit : Kind → Option Datum → Judged Datum
or_misfit k None = misfit k
or_misfit k (Some d) = Ok d

-- the number of the first member with the name
abbrev pub member_number : List (List ℕ × ℤ) → List ℕ → Option ℤ
member_number [] name = None
member_number (m ∷ ms) name = if bytes_eq m.0 name then Some m.1 else member_number ms name

-- the value of the number, where there is one
abbrev pub as_number : Option ℤ → Option Datum
as_number None = None
as_number (Some z) = Some (number z)

-- ---- what has no parts

-- what null is: void
abbrev pub null_value : Head → Option Datum
null_value (is_basic basics.Void) = Some nothing
null_value _ = None

-- what true or false is: a bool
abbrev pub bool_value : Head → Bool → Option Datum
bool_value (is_basic basics.Bool) b = Some (flag b)
bool_value _ b = None

-- a whole number in the range of a type of numbers
abbrev pub whole_value : Head → Option ℤ → Option Datum
whole_value (is_basic b) (Some z) = if number_fits (is_basic b) z then Some (number z) else None
whole_value _ _ = None

-- as many bytes as the type has
abbrev pub octets_value : Head → List ℕ → Option Datum
octets_value head bytes = if octets_fit head (length bytes) then Some (octets bytes) else None

-- the octets that hex is, where it is hex
abbrev pub hex_value : Head → Result (List ℕ) FromHexError → Option Datum
hex_value head (Ok bytes) = octets_value head bytes
hex_value head (Err e) = None

-- a member's name, hex, or a string as it stands
abbrev pub string_value : Head → List ℕ → Option Datum
string_value (is_enum ms) s = as_number (member_number ms s)
string_value (is_basic (basics.Text n)) s = octets_value (is_basic (basics.Text n)) s
string_value (is_basic (basics.Opaque n)) s = hex_value (is_basic (basics.Opaque n)) (decode_of s)
string_value (is_basic (basics.OpaqueUpTo n)) s = hex_value (is_basic (basics.OpaqueUpTo n)) (decode_of s)
string_value _ s = None

-- ---- tags

-- The type of the tag of a union, where the type behind an alias is looked at by follow; any other type stands for
-- itself.
abbrev pub tag_kind_of : Kind → (Kind → Kind) → Option Form → Kind
tag_kind_of k follow None = k
tag_kind_of k follow (Some (alias other)) = follow other
tag_kind_of k follow (Some (enum ms)) = k
tag_kind_of k follow (Some (struct ps)) = k
tag_kind_of k follow (Some (choice tag cs)) = tag

-- where at most so many names are followed
unfoldable pub tag_kind_within : ℕ → Types → Kind → Kind
tag_kind_within n t (basic b) = basic b
tag_kind_within n t (array k m) = array k m
tag_kind_within n t (array_up_to k m) = array_up_to k m
tag_kind_within n t (maybe k) = maybe k
tag_kind_within zero t (named s) = named s
tag_kind_within (suc n) t (named s) = tag_kind_of (named s) (tag_kind_within n t) (form_named s t)

-- the type that is written for the tag of this union
unfoldable pub tag_kind : Types → Kind → Kind
tag_kind t k = tag_kind_within (length t) t k

-- the number, where it is in range
abbrev pub in_range : Bool → ℤ → Option Datum
in_range b z = if b then Some (number z) else None

-- the tag that a whole number is
abbrev pub whole_tag : Tag → Option ℤ → Option Datum
whole_tag tag_int (Some z) = in_range (is_within (2 ^ 31) z) z
whole_tag tag_uint (Some z) = in_range (is_below (2 ^ 32) z) z
whole_tag _ _ = None

-- the tag that a name is
abbrev pub name_tag : Tag → List ℕ → Option Datum
name_tag (tag_enum ms) s = as_number (member_number ms s)
name_tag _ s = None

-- the tag that true or false is
abbrev pub bool_tag : Tag → Bool → Option Datum
bool_tag tag_bool b = Some (flag b)
bool_tag _ b = None

-- the value of the tag's type that JSON is
abbrev pub tag_of_json : Tag → Json → Option Datum
tag_of_json tag (json.number n) = whole_tag tag (as_integer n)
tag_of_json tag (json.string s) = name_tag tag s
tag_of_json tag (json.boolean b) = bool_tag tag b
tag_of_json tag json.null = None
tag_of_json tag (json.array js) = None
tag_of_json tag (json.object ms) = None

-- ---- objects

-- each field is a member
abbrev pub all_there : List Part → Members → Bool
all_there [] ms = true
all_there (p ∷ ps) ms = is_some (get_member p.name ms) && all_there ps ms

-- As many members as fields, and each field among them: the keys of an object differ, and so do the fields of a struct.
abbrev pub has_fields : List Part → Members → Bool
has_fields ps ms = (members_len ms == length ps) && all_there ps ms

-- the octets of a string of hex
abbrev pub hex_string : Head → Option Json → Option Datum
hex_string head (Some (json.string s)) = hex_value head (decode_of s)
hex_string head _ = None

-- an object with the one key `hex`
abbrev pub hex_form : Head → Members → Option Datum
hex_form head ms = if members_len ms == 1 then hex_string head (get_member (codes "hex") ms) else None

-- what judges a value, by its type
abbrev pub Judge : Type 0
Judge = Kind → Judged Datum

-- what the member is judged to be, which doesn't fit where it isn't there
abbrev pub asked : Option Judge → Judge
asked None k = misfit k
asked (Some judge) k = judge k

-- each field, in the order of the type
abbrev pub parts_judged : List Part → (List ℕ → Option Judge) → Judged Data
parts_judged [] found = Ok end
parts_judged (p ∷ ps) found =
    below (field_step p.name) (asked (found p.name) p.kind) >>= λ d. parts_judged ps found >>= λ ds. Ok (more d ds)

-- the arm of the tag
abbrev pub arm_judged : Kind → Datum → Option Choice → Option Judge → Judged Datum
arm_judged k tag None value = misfit k
arm_judged k tag (Some c) value =
    below (field_step (codes "value")) (asked value (arm_kind c)) >>= λ d. Ok (union tag d)

-- the tag that the member `case` is
abbrev pub tag_found : Tag → Option Json → Option Datum
tag_found tag None = None
tag_found tag (Some j) = tag_of_json tag j

-- the tag before the arm
abbrev pub chosen_judged : Types → Kind → List Choice → Option Datum → Option Judge → Judged Datum
chosen_judged t k cs None value = below (field_step (codes "case")) (misfit (tag_kind t k))
chosen_judged t k cs (Some tag) value = arm_judged k tag (arm_of (tag_number tag) cs) value

-- an object with the two keys `case` and `value`
abbrev pub has_union : Members → Bool
has_union ms =
    (members_len ms == 2) && (is_some (get_member (codes "case") ms) && is_some (get_member (codes "value") ms))

-- what an object is: a struct, a union, or a string in hex
abbrev pub object_judged : Types → Kind → Head → Members → (List ℕ → Option Judge) → Judged Datum
object_judged t k (is_struct ps) ms found =
    if has_fields ps ms then (parts_judged ps found >>= λ ds. Ok (items ds)) else misfit k
object_judged t k (is_union tag cs) ms found =
    if has_union ms then chosen_judged t k cs (tag_found tag (get_member (codes "case") ms)) (found (codes "value"))
    else misfit k
object_judged t k (is_basic (basics.Text n)) ms found = or_misfit k (hex_form (is_basic (basics.Text n)) ms)
object_judged t k _ ms found = misfit k

-- ---- arrays

-- a list, where its length fits
abbrev pub list_judged : Bool → Kind → Judged Data → Judged Datum
list_judged fits k elements = if fits then (elements >>= λ ds. Ok (items ds)) else misfit k

-- `[]` or `[V]`
abbrev pub optional_judged : Kind → ℕ → Judged Datum → Judged Datum
optional_judged k zero first = Ok none
optional_judged k (suc zero) first = first >>= λ d. Ok (some d)
optional_judged k (suc (suc n)) first = misfit k

-- what an array is: an array, or optional data
abbrev pub array_judged : Types → Kind → Head → ℕ → (Kind → Judged Data) → Judge → Judged Datum
array_judged t k (is_array e m) n elements first = list_judged (n == m) k (elements e)
array_judged t k (is_array_up_to e m) n elements first =
    list_judged (nat_le n (list_limit t e m) && nat_lt n (2 ^ 32)) k (elements e)
array_judged t k (is_maybe e) n elements first = optional_judged k n (first e)
array_judged t k _ n elements first = misfit k

abbrev mutual
  -- the value of the type that JSON is
  pub judged : Types → Json → Judge
  judged t json.null k = or_misfit k (null_value (head_of t k))
  judged t (json.boolean b) k = or_misfit k (bool_value (head_of t k) b)
  judged t (json.number n) k = or_misfit k (whole_value (head_of t k) (as_integer n))
  judged t (json.string s) k = or_misfit k (string_value (head_of t k) s)
  judged t (json.array js) k =
      array_judged t k (head_of t k) (items_len js) (λ e. elements_judged t js e 0) (λ e. first_judged t js e)
  judged t (json.object ms) k = object_judged t k (head_of t k) ms (member_judge t ms)

  -- the elements from the i-th on
  pub elements_judged : Types → Items → Kind → ℕ → Judged Data
  elements_judged t json.no_items k i = Ok end
  elements_judged t (json.item j js) k i =
      below (index_step i) (judged t j k) >>= λ d. elements_judged t js k (i + 1) >>= λ ds. Ok (more d ds)

  -- the one element of optional data
  pub first_judged : Types → Items → Judge
  first_judged t json.no_items k = misfit k
  first_judged t (json.item j js) k = below (index_step 0) (judged t j k)

  -- what judges the member of the name
  pub member_judge : Types → Members → List ℕ → Option Judge
  member_judge t json.no_members name = None
  member_judge t (json.member l j ms) name =
      match_ordering (slice_cmp nat_cmp name l) (member_judge t ms name) (Some (judged t j)) (member_judge t ms name)
