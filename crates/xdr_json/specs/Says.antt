-- Which JSON says which value of a type: the format by cases on the type, without an order of judging. Nothing of it is
-- the reader's. Public clauses cite this module.
use Rattle.std.specs.Prelude.{◌≡◌, ℕ, ℤ, Bool, List, [], ◌∷◌, length, codes, Some, Ok, ⊤, ◌⊎◌}
use Rattle.hex.specs.Hex.{decode_of}
use Rattle.serde_json.specs.Data.{Num, Data as Json, Items, Members}
use Rattle.serde_json.specs.Data as json
use Rattle.serde_json.specs.Find.{as_integer, get_member}
use Rattle.serde_json.specs.Events.{members_len}
use Rattle.serde_json.specs.Read.{read}
use Rattle.xdr_value.specs.declared.ty.Basic.{Basic}
use Rattle.xdr_value.specs.declared.ty.Basic.TheVariants as basics
use Rattle.xdr_value.specs.Data.{Kind, Part, Choice, Param, Datum, number, flag, octets, items, union, none, some}
use Rattle.xdr_value.specs.Data.{nothing, Data, end, more, Types}
use Rattle.xdr_value.specs.Heads.{Tag, tag_int, tag_uint, tag_bool, tag_enum, is_basic, is_enum, is_struct, is_union}
use Rattle.xdr_value.specs.Heads.{is_array, is_array_up_to, is_maybe, head_of, arm_of, arm_kind}
use Rattle.xdr_value.specs.Fits.{Fits, tag_number}
use Rattle.xdr_json.specs.Args.{in_kinds}

-- a type of numbers
abbrev pub HasNumbers : Basic → Type 0
HasNumbers basics.Int = ⊤
HasNumbers basics.Uint = ⊤
HasNumbers basics.Hyper = ⊤
HasNumbers basics.Uhyper = ⊤
HasNumbers basics.Short = ⊤
HasNumbers basics.Ushort = ⊤
HasNumbers basics.Char = ⊤
HasNumbers basics.Uchar = ⊤
HasNumbers basics.Bool = ⊥
HasNumbers basics.Void = ⊥
HasNumbers (basics.Opaque n) = ⊥
HasNumbers (basics.OpaqueUpTo n) = ⊥
HasNumbers (basics.Text n) = ⊥

-- a member of the enum has the name and the number
abbrev pub IsMember : List (List ℕ × ℤ) → List ℕ → ℤ → Type 0
IsMember [] name z = ⊥
IsMember (m ∷ ms) name z = ((m.0 ≡ name) × (m.1 ≡ z)) ⊎ IsMember ms name z

-- two hex digits of either case for each byte
abbrev pub IsHex : List ℕ → List ℕ → Type 0
IsHex digits bytes = decode_of digits ≡ Ok bytes

-- A union's tag is said as a value of its type: a whole number, true or false, or a member's name.
pub data SaysTag : Tag → Json → Datum → Type 0 where
  int_tag : (n : Num) (z : ℤ) → as_integer n ≡ Some z → SaysTag tag_int (json.number n) (number z)
  uint_tag : (n : Num) (z : ℤ) → as_integer n ≡ Some z → SaysTag tag_uint (json.number n) (number z)
  bool_tag : (b : Bool) → SaysTag tag_bool (json.boolean b) (flag b)
  enum_tag : (ms : List (List ℕ × ℤ)) (name : List ℕ) (z : ℤ) → IsMember ms name z
      → SaysTag (tag_enum ms) (json.string name) (number z)

mutual
  -- the JSON says the value of the type
  pub data Says (t : Types) : Kind → Json → Datum → Type 0 where
    -- a number is a whole number
    whole_number : (k : Kind) (b : Basic) (n : Num) (z : ℤ) → head_of t k ≡ is_basic b → HasNumbers b
        → as_integer n ≡ Some z
        → Says t k (json.number n) (number z)
    -- a bool is true or false
    true_or_false : (k : Kind) (b : Bool) → head_of t k ≡ is_basic basics.Bool → Says t k (json.boolean b) (flag b)
    -- void is null
    void_is_null : (k : Kind) → head_of t k ≡ is_basic basics.Void → Says t k json.null nothing
    -- an enum is its member's name
    name_of_member : (k : Kind) (ms : List (List ℕ × ℤ)) (name : List ℕ) (z : ℤ) → head_of t k ≡ is_enum ms
        → IsMember ms name z
        → Says t k (json.string name) (number z)
    -- opaque data is hex
    hex_digits : (k : Kind) (n : ℕ) (digits bytes : List ℕ) → head_of t k ≡ is_basic (basics.Opaque n)
        → IsHex digits bytes
        → Says t k (json.string digits) (octets bytes)
    hex_digits_up_to : (k : Kind) (n : ℕ) (digits bytes : List ℕ) → head_of t k ≡ is_basic (basics.OpaqueUpTo n)
        → IsHex digits bytes → Says t k (json.string digits) (octets bytes)
    -- a string is a text, or an object whose one member `hex` is hex
    as_it_stands : (k : Kind) (n : ℕ) (bytes : List ℕ) → head_of t k ≡ is_basic (basics.Text n)
        → Says t k (json.string bytes) (octets bytes)
    text_in_hex : (k : Kind) (n : ℕ) (ms : Members) (digits bytes : List ℕ) → head_of t k ≡ is_basic (basics.Text n)
        → members_len ms ≡ 1 → get_member (codes "hex") ms ≡ Some (json.string digits) → IsHex digits bytes
        → Says t k (json.object ms) (octets bytes)
    -- an array is an array
    elements : (k e : Kind) (n : ℕ) (js : Items) (ds : Data) → head_of t k ≡ is_array e n → SaysAll t e js ds
        → Says t k (json.array js) (items ds)
    elements_up_to : (k e : Kind) (n : ℕ) (js : Items) (ds : Data) → head_of t k ≡ is_array_up_to e n
        → SaysAll t e js ds
        → Says t k (json.array js) (items ds)
    -- a struct is an object with exactly its fields: as many members as fields, and one for each
    fields : (k : Kind) (ps : List Part) (ms : Members) (ds : Data) → head_of t k ≡ is_struct ps
        → members_len ms ≡ length ps → SaysParts t ps ms ds → Says t k (json.object ms) (items ds)
    -- a union is an object of two members: `case`, and `value` with what the tag's arm holds
    tag_and_arm : (k : Kind) (tag : Tag) (cs : List Choice) (ms : Members) (case value : Json)
        (d e : Datum) (c : Choice)
        → head_of t k ≡ is_union tag cs → members_len ms ≡ 2
        → get_member (codes "case") ms ≡ Some case → SaysTag tag case d → arm_of (tag_number d) cs ≡ Some c
        → get_member (codes "value") ms ≡ Some value → Says t (arm_kind c) value e
        → Says t k (json.object ms) (union d e)
    -- optional data is an array of none or one
    no_data : (k e : Kind) → head_of t k ≡ is_maybe e → Says t k (json.array json.no_items) none
    one_datum : (k e : Kind) (j : Json) (d : Datum) → head_of t k ≡ is_maybe e → Says t e j d
        → Says t k (json.array (json.item j json.no_items)) (some d)

  -- each field's member says its value
  pub data SaysParts (t : Types) : List Part → Members → Data → Type 0 where
    no_part : (ms : Members) → SaysParts t [] ms end
    one_part : (p : Part) (ps : List Part) (ms : Members) (j : Json) (d : Datum) (ds : Data)
        → get_member p.name ms ≡ Some j → Says t p.kind j d → SaysParts t ps ms ds → SaysParts t (p ∷ ps) ms (more d ds)

  -- each element says a value of the type
  pub data SaysAll (t : Types) : Kind → Items → Data → Type 0 where
    no_element : (k : Kind) → SaysAll t k json.no_items end
    one_element : (k : Kind) (j : Json) (js : Items) (d : Datum) (ds : Data) → Says t k j d → SaysAll t k js ds
        → SaysAll t k (json.item j js) (more d ds)

-- the text is a JSON that says the value of the type
abbrev pub TextSays : Types → Kind → List ℕ → Datum → Type 0
TextSays t k text d = (j : Json) × (read text ≡ Some j) × Says t k j d

-- one element says each value, of the types in order
pub data SaysEach (t : Types) : List Kind → Items → Data → Type 0 where
  no_value : SaysEach t [] json.no_items end
  one_value : (k : Kind) (ks : List Kind) (j : Json) (js : Items) (d : Datum) (ds : Data) → Says t k j d
      → SaysEach t ks js ds → SaysEach t (k ∷ ks) (json.item j js) (more d ds)

-- the text is a JSON array that says the values of the IN and INOUT arguments
abbrev pub TextSaysArgs : Types → List Param → List ℕ → Data → Type 0
TextSaysArgs t ps text ds = (js : Items) × (read text ≡ Some (json.array js)) × SaysEach t (in_kinds ps) js ds

-- one value of each type
abbrev pub EachFits : Types → List Kind → Data → Type 0
EachFits t [] end = ⊤
EachFits t [] (more d ds) = ⊥
EachFits t (k ∷ ks) end = ⊥
EachFits t (k ∷ ks) (more d ds) = Fits t k d × EachFits t ks ds
