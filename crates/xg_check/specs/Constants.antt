-- The constants of a text and their values. Public clauses cite this module.
use Rattle.std.specs.Prelude.{ℕ, ℤ, zero, suc, ◌^◌, Bool, true, false, List, [], ◌∷◌, length, Option, Some, None, map}
use Rattle.std.specs.Prelude.{flat_map, slice_get, nat_lt, if◌then◌else◌, ◌+ℤ◌, ◌-ℤ◌, option_and_then}
use Rattle.std.specs.Option.{option_map}
use lib.IntN.{pos, negsuc}
use Rattle.xg_parse.specs.declared.tree.ConstWord.{ConstWord}
use Rattle.xg_parse.specs.declared.tree.ConstWord.TheVariants as consts
use Rattle.xg_parse.specs.declared.tree.MembItem.{MembItem}
use Rattle.xg_parse.specs.declared.tree.Part.{Part}
use Rattle.xg_parse.specs.declared.tree.Part.TheVariants as parts
use Rattle.xg_parse.specs.declared.tree.Item.{Item}
use Rattle.xg_check.specs.Places.{place_of}

-- where a constant has its value from: a word, or as a member of an enum without one 0 or what follows the member
-- before
pub data Given : Type 0 where
  word : ConstWord → Given
  first : Given
  next : Given

-- a constant: its name, where its value is from, and whether it is a member of an enum
pub record ConstantDef : Type 0 where
  pub name : List ℕ
  pub given : Given
  pub is_member : Bool

-- ---- the constants of a text, in order

-- what stands for a value that isn't written
abbrev pub given_or : Given → Option ConstWord → Given
given_or other None = other
given_or other (Some w) = word w

-- the members of an enum, where that stands for the first value if it isn't written
abbrev pub members_from : Given → List MembItem → List ConstantDef
members_from other [] = []
members_from other (m ∷ ms) =
    record { name = m.name; given = given_or other m.value; is_member = true } ∷ members_from next ms

-- the constants that a part defines: one, or the members of an enum
abbrev pub part_constants : Part → List ConstantDef
part_constants (parts.Const name value) = record { name = name; given = word value; is_member = false } ∷ []
part_constants (parts.Enum name members) = members_from first members
part_constants (parts.Package name) = []
part_constants (parts.Prefix name) = []
part_constants (parts.StatIndex number) = []
part_constants (parts.StartingOpcode number) = []
part_constants (parts.Typedef decl) = []
part_constants (parts.Struct name fields) = []
part_constants (parts.Union name tag tag_name arms otherwise) = []
part_constants (parts.Proc name args kind opcode) = []

-- the constants of a text, in its order
abbrev pub constants_in : List Item → List ConstantDef
constants_in items = flat_map (λ (i : Item). part_constants i.part) items

-- the names of the constants, in order
abbrev pub constant_names : List ConstantDef → List (List ℕ)
constant_names cs = map (λ (c : ConstantDef). c.name) cs

-- ---- their values

-- the number with its sign
abbrev pub signed : Bool → ℕ → ℤ
signed true n = pos 0 -ℤ pos n
signed false n = pos n

-- the value of a word, where held gives the values of constants
abbrev pub word_value : (ℕ → Option ℤ) → List ConstantDef → ConstWord → Option ℤ
word_value held cs (consts.Literal minus n) = Some (signed minus n)
word_value held cs (consts.Name name) = option_and_then held (place_of name (constant_names cs))

-- the value that follows that of the constant before
abbrev pub value_behind : (ℕ → Option ℤ) → ℕ → Option ℤ
value_behind held zero = None
value_behind held (suc i) = option_map (λ z. z +ℤ pos 1) (held i)

-- the value of the constant of this number by where it is from, where held gives the values of constants
abbrev pub given_value : (ℕ → Option ℤ) → List ConstantDef → ℕ → Given → Option ℤ
given_value held cs i (word w) = word_value held cs w
given_value held cs i first = Some (pos 0)
given_value held cs i next = value_behind held i

-- the value of the constant of this number, if there is one, where held gives the values of constants
abbrev pub constant_value : (ℕ → Option ℤ) → List ConstantDef → ℕ → Option ConstantDef → Option ℤ
constant_value held cs i None = None
constant_value held cs i (Some c) = given_value held cs i c.given

-- the value of the constant of this number, where at most so many are followed
unfoldable pub value_within : ℕ → List ConstantDef → ℕ → Option ℤ
value_within zero cs i = None
value_within (suc n) cs i = constant_value (value_within n cs) cs i (slice_get cs i)

-- The value of the constant. One that leads into a ring or to a name that isn't defined has none.
unfoldable pub value_at : List ConstantDef → ℕ → Option ℤ
value_at cs i = value_within (length cs) cs i

-- the value of a word: a number, or the value of the constant that it names
abbrev pub value_of : List ConstantDef → ConstWord → Option ℤ
value_of cs w = word_value (value_at cs) cs w

-- the value of the constant of this name
abbrev pub value_named : List ConstantDef → List ℕ → Option ℤ
value_named cs name = option_and_then (value_at cs) (place_of name (constant_names cs))

-- a number of 32 bits
abbrev pub in_32_bits : Option ℤ → Option ℕ
in_32_bits None = None
in_32_bits (Some (pos n)) = if nat_lt n (2 ^ 32) then Some n else None
in_32_bits (Some (negsuc n)) = None

-- the number of a size or bound, where it has one from 0 to 4294967295
abbrev pub size_of : List ConstantDef → ConstWord → Option ℕ
size_of cs w = in_32_bits (value_of cs w)

-- ---- which others they lead to

-- the number as a list, which is empty where there is none
abbrev pub one_or_none : Option ℕ → List ℕ
one_or_none None = []
one_or_none (Some i) = i ∷ []

-- the number before, if there is one
abbrev pub before : ℕ → Option ℕ
before zero = None
before (suc i) = Some i

-- the number of the constant that a word names
abbrev pub word_source : List ConstantDef → ConstWord → Option ℕ
word_source cs (consts.Literal minus n) = None
word_source cs (consts.Name name) = place_of name (constant_names cs)

-- the constant from whose value the value of this one comes
abbrev pub given_source : List ConstantDef → ℕ → Given → Option ℕ
given_source cs i (word w) = word_source cs w
given_source cs i first = None
given_source cs i next = before i

-- to which other each of these constants leads, of which the first has this number among all
abbrev pub ways_from : List ConstantDef → ℕ → List ConstantDef → List (List ℕ)
ways_from all i [] = []
ways_from all i (c ∷ cs) = one_or_none (given_source all i c.given) ∷ ways_from all (suc i) cs

-- to which other each constant leads
abbrev pub constant_ways : List ConstantDef → List (List ℕ)
constant_ways cs = ways_from cs 0 cs
