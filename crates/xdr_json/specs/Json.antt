-- The JSON that a value is. Public clauses cite this module.
use Rattle.std.specs.Prelude.{ℕ, ℤ, ◌<◌, ◌^◌, List, [], ◌∷◌, codes, Bool, true, false, Option, Some, None}
use Rattle.std.specs.Prelude.{if◌then◌else◌}
use lib.IntN.{pos, negsuc}
use Rattle.std.specs.Str.{is_utf8}
use Rattle.std.specs.Ordering.{int_eq}
use Rattle.hex.specs.Hex.{encode_lower}
use Rattle.serde_json.specs.Data.{Data as Json, Items, Members, put}
use Rattle.serde_json.specs.Data as json
use Rattle.serde_json.specs.Find.{of_integer}
use Rattle.xdr_value.specs.declared.ty.Basic.TheVariants as basics
use Rattle.xdr_value.specs.Data.{Kind, Part, Choice, Datum, number, flag, octets, items, union, none, some, nothing}
use Rattle.xdr_value.specs.Data.{Data, end, more, Types}
use Rattle.xdr_value.specs.Heads.{Tag, tag_int, tag_uint, tag_bool, tag_enum, tag_other, Head, is_basic, is_enum}
use Rattle.xdr_value.specs.Heads.{is_struct, is_union, is_array, is_array_up_to, is_maybe, is_unknown, head_of, arm_of}
use Rattle.xdr_value.specs.Heads.{arm_kind}
use Rattle.xdr_value.specs.Fits.{tag_number}

-- the name of the first member with the number
abbrev pub member_name : List (List ℕ × ℤ) → ℤ → List ℕ
member_name [] z = []
member_name (m ∷ ms) z = if int_eq m.1 z then m.0 else member_name ms z

-- a whole number
abbrev pub integer_json : ℤ → Json
integer_json z = json.number (of_integer z)

-- a whole number, and a member of an enum by its name
abbrev pub number_json : Head → ℤ → Json
number_json (is_basic b) z = integer_json z
number_json (is_enum ms) z = json.string (member_name ms z)
number_json (is_struct ps) z = integer_json z
number_json (is_union tag cs) z = integer_json z
number_json (is_array k n) z = integer_json z
number_json (is_array_up_to k n) z = integer_json z
number_json (is_maybe k) z = integer_json z
number_json is_unknown z = integer_json z

-- an object of one member
abbrev pub hex_object : List ℕ → Json
hex_object bytes = json.object (json.member (codes "hex") (json.string (encode_lower bytes)) json.no_members)

-- the type is a string
abbrev pub is_text : Head → Bool
is_text (is_basic basics.Int) = false
is_text (is_basic basics.Uint) = false
is_text (is_basic basics.Hyper) = false
is_text (is_basic basics.Uhyper) = false
is_text (is_basic basics.Short) = false
is_text (is_basic basics.Ushort) = false
is_text (is_basic basics.Char) = false
is_text (is_basic basics.Uchar) = false
is_text (is_basic basics.Bool) = false
is_text (is_basic basics.Void) = false
is_text (is_basic (basics.Opaque n)) = false
is_text (is_basic (basics.OpaqueUpTo n)) = false
is_text (is_basic (basics.Text n)) = true
is_text (is_enum ms) = false
is_text (is_struct ps) = false
is_text (is_union tag cs) = false
is_text (is_array k n) = false
is_text (is_array_up_to k n) = false
is_text (is_maybe k) = false
is_text is_unknown = false

-- bytes as a text where they are UTF-8 and a text is asked for, else as hex
abbrev pub text_or_hex : Bool → List ℕ → Json
text_or_hex true bytes = if is_utf8 bytes then json.string bytes else hex_object bytes
text_or_hex false bytes = json.string (encode_lower bytes)

-- opaque data is hex, and a string a text where it is UTF-8
abbrev pub octets_json : Head → List ℕ → Json
octets_json head bytes = text_or_hex (is_text head) bytes

-- a tag's number, or its member's name
abbrev pub number_tag_json : Tag → ℤ → Json
number_tag_json tag_int z = integer_json z
number_tag_json tag_uint z = integer_json z
number_tag_json tag_bool z = integer_json z
number_tag_json (tag_enum ms) z = json.string (member_name ms z)
number_tag_json tag_other z = integer_json z

-- a tag as a value of its type
abbrev pub tag_json : Tag → Datum → Json
tag_json tag (number z) = number_tag_json tag z
tag_json tag (flag b) = json.boolean b
tag_json tag _ = json.null

-- `case` and `value`
abbrev pub union_object : Json → Json → Json
union_object tag arm = json.object (put (codes "value") arm (put (codes "case") tag json.no_members))

-- what the chosen arm holds
abbrev pub arm_json : Option Choice → (Kind → Json) → Json
arm_json None inner = json.null
arm_json (Some c) inner = inner (arm_kind c)

-- a union, by its tag and its arm
abbrev pub union_json : Head → Datum → (Kind → Json) → Json
union_json (is_union tag cs) d inner = union_object (tag_json tag d) (arm_json (arm_of (tag_number d) cs) inner)
union_json _ d inner = json.null

-- an object of the fields, or an array of the elements
abbrev pub items_json : Head → (List Part → Members) → (Kind → Items) → Json
items_json (is_struct ps) parts all = json.object (parts ps)
items_json (is_array k n) parts all = json.array (all k)
items_json (is_array_up_to k n) parts all = json.array (all k)
items_json _ parts all = json.null

-- an array of the one value
abbrev pub maybe_json : Head → (Kind → Json) → Json
maybe_json (is_maybe k) inner = json.array (json.item (inner k) json.no_items)
maybe_json _ inner = json.null

abbrev mutual
  -- the JSON of a value of the type
  pub json_of : Types → Kind → Datum → Json
  json_of t k (number z) = number_json (head_of t k) z
  json_of t k (flag b) = json.boolean b
  json_of t k (octets bytes) = octets_json (head_of t k) bytes
  json_of t k (items vs) =
      items_json (head_of t k) (λ ps. members_json t ps vs json.no_members) (λ e. elements_json t e vs)
  json_of t k (union tag arm) = union_json (head_of t k) tag (λ e. json_of t e arm)
  json_of t k none = json.array json.no_items
  json_of t k (some v) = maybe_json (head_of t k) (λ e. json_of t e v)
  json_of t k nothing = json.null

  -- a member for each field, beside those that are there
  pub members_json : Types → List Part → Data → Members → Members
  members_json t [] vs ms = ms
  members_json t (p ∷ ps) end ms = ms
  members_json t (p ∷ ps) (more v vs) ms = members_json t ps vs (put p.name (json_of t p.kind v) ms)

  -- an item for each element
  pub elements_json : Types → Kind → Data → Items
  elements_json t k end = json.no_items
  elements_json t k (more v vs) = json.item (json_of t k v) (elements_json t k vs)

-- a number that 64 bits hold, with a sign or without
abbrev pub FitsInteger : ℤ → Type 0
FitsInteger (pos n) = n < 2 ^ 64
FitsInteger (negsuc n) = n < 2 ^ 63
