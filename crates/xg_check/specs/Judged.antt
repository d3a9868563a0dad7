-- What is a fault, place by place. Public clauses cite this module.
use Rattle.std.specs.Prelude.{◌≡◌, ℕ, ℤ, ◌<◌, ◌^◌, Bool, true, false, ◌&&◌, ◌||◌, not, nat_eq, nat_lt, List, [], ◌∷◌}
use Rattle.std.specs.Prelude.{length, Option, Some, None, is_some, is_none, slice_get, option_and_then}
use Rattle.std.specs.Ordering.{int_eq}
use Rattle.std.specs.Str.{bytes_eq}
use Rattle.xdr_value.specs.Ranges.{is_within}
use Rattle.xg_parse.specs.declared.tree.ConstWord.{ConstWord}
use Rattle.xg_parse.specs.declared.tree.ConstWord.TheVariants as consts
use Rattle.xg_parse.specs.declared.tree.TypeWord.{TypeWord}
use Rattle.xg_parse.specs.declared.tree.TypeWord.TheVariants as types
use Rattle.xg_parse.specs.declared.tree.Form.{Form}
use Rattle.xg_parse.specs.declared.tree.Form.TheVariants as forms
use Rattle.xg_parse.specs.declared.tree.ArmItem.{ArmItem}
use Rattle.xg_parse.specs.declared.tree.Part.{Part}
use Rattle.xg_parse.specs.declared.tree.Tree.{Tree}
use Rattle.xg_check.specs.declared.marks.Space.{Space}
use Rattle.xg_check.specs.declared.marks.Space.TheVariants as spaces
use Rattle.xg_check.specs.declared.tags.Tag.{Tag}
use Rattle.xg_check.specs.declared.tags.Tag.TheVariants as tags
use Rattle.xg_check.specs.declared.types.Ways.TheVariants as ways
use Rattle.xg_check.specs.Places.{place_of}
use Rattle.xg_check.specs.Bases.{base_named}
use Rattle.xg_check.specs.Constants.{ConstantDef, constants_in, constant_names, constant_ways, value_of, value_at}
use Rattle.xg_check.specs.Constants.{size_of, in_32_bits}
use Rattle.xg_check.specs.Typed.{types_in, type_names, type_ways, word_place}
use Rattle.xg_check.specs.Graphs.{Leads}
use Rattle.xg_check.specs.Marks.{Mark, declares, union_case, uses_type, uses_constant, valued, sized, enum_type}
use Rattle.xg_check.specs.Marks.{struct_type, union_type}
use Rattle.xg_check.specs.Encodings.{is_hollow, bytes_at, declared_bytes}
use Rattle.xg_check.specs.Tags.{tag_of, has_case}

-- what names stand for: all constants and all types of the text, in its order
pub record Scope : Type 0 where
  pub constants : List ConstantDef
  pub types : List Part

-- the constants and the types that a text defines
abbrev pub scope_of : Tree → Scope
scope_of tree = record { constants = constants_in tree.items; types = types_in tree.items }

-- ---- twice

-- two names stand among the types, the constants or the procedures, or in the list of one item
abbrev pub same_space : Space → Space → Bool
same_space spaces.Type spaces.Type = true
same_space spaces.Constant spaces.Constant = true
same_space spaces.Procedure spaces.Procedure = true
same_space (spaces.List i) (spaces.List j) = nat_eq i j
same_space _ _ = false

-- one value; a case without a value equals none
abbrev pub same_value : Option ℤ → Option ℤ → Bool
same_value (Some y) (Some z) = int_eq y z
same_value _ _ = false

-- two types, constants or procedures, two of one list, or two cases of one union
abbrev pub are_same : List ConstantDef → Mark → Mark → Bool
are_same cs (declares r m) (declares s n) = same_space r s && bytes_eq m n
are_same cs (union_case i m t v) (union_case j n u w) = nat_eq i j && same_value (value_of cs v) (value_of cs w)
are_same cs _ _ = false

-- the second of two stands there
pub record IsTwice (cs : List ConstantDef) (marks : List Mark) (k : ℕ) : Type 0 where
  pub mark : Mark
  pub stands : slice_get marks k ≡ Some mark
  pub earlier : ℕ
  pub before : earlier < k
  pub other : Mark
  pub stood : slice_get marks earlier ≡ Some other
  pub same : are_same cs mark other ≡ true

-- ---- unknown

-- a type that is none of the language, and that the text doesn't define
abbrev pub is_unknown_type : List Part → TypeWord → Bool
is_unknown_type ts (types.Base words) = is_none (base_named words)
is_unknown_type ts (types.Name n) = is_none (place_of n (type_names ts))

-- a name for a value that no constant of the text has
abbrev pub is_unknown_constant : List ConstantDef → ConstWord → Bool
is_unknown_constant cs (consts.Literal minus n) = false
is_unknown_constant cs (consts.Name n) = is_none (place_of n (constant_names cs))

-- a type or a constant is used that isn't defined
abbrev pub is_unknown : Scope → Mark → Bool
is_unknown s (uses_type t) = is_unknown_type s.types t
is_unknown s (uses_constant w) = is_unknown_constant s.constants w
is_unknown s _ = false

-- what isn't defined stands there
pub record IsUnknown (s : Scope) (marks : List Mark) (k : ℕ) : Type 0 where
  pub mark : Mark
  pub stands : slice_get marks k ≡ Some mark
  pub unknown : is_unknown s mark ≡ true

-- ---- sizes

-- the type of this number holds itself other than through optional data or a variable array
abbrev pub IsEndless : List Part → ℕ → Type 0
IsEndless ts i = Leads (type_ways ts ways.Held) i i

-- neither is an endless one nor leads to one
abbrev pub HoldsNoEndless : List Part → Option ℕ → Type 0
HoldsNoEndless ts None = Unit {0}
HoldsNoEndless ts (Some i) = (IsEndless ts i → ⊥) × ((j : ℕ) → Leads (type_ways ts ways.All) i j → IsEndless ts j → ⊥)

-- how many bytes an encoding may have at most
abbrev pub passes_most : Option ℕ → Bool
passes_most None = false
passes_most (Some n) = nat_lt 65536 n

-- a bound or a size with a value below 0 or above 4294967295
abbrev pub is_out_of_range : List ConstantDef → Option ConstWord → Bool
is_out_of_range cs None = false
is_out_of_range cs (Some w) = is_some (value_of cs w) && is_none (size_of cs w)

-- the bound or the size of a declaration, if one is written
abbrev pub form_bound_word : Form → Option ConstWord
form_bound_word (forms.Fixed t size) = Some size
form_bound_word (forms.Opaque size) = Some size
form_bound_word (forms.UpTo t most) = most
form_bound_word (forms.OpaqueUpTo most) = most
form_bound_word (forms.Text most) = most
form_bound_word (forms.Plain t) = None
form_bound_word (forms.Star t) = None

-- an array whose elements take no bytes, and hold no endless type
abbrev pub IsHollowArray : Scope → Form → Type 0
IsHollowArray s (forms.Fixed t size) =
    HoldsNoEndless s.types (word_place s.types t) × (is_hollow s.types s.constants t ≡ true)
IsHollowArray s (forms.UpTo t most) =
    HoldsNoEndless s.types (word_place s.types t) × (is_hollow s.types s.constants t ≡ true)
IsHollowArray s _ = ⊥

-- a fixed size whose smallest encoding is too large, and that holds no endless type
abbrev pub IsTooLarge : Scope → Form → Type 0
IsTooLarge s (forms.Fixed t size) =
    HoldsNoEndless s.types (word_place s.types t)
    × (passes_most (declared_bytes s.types s.constants (forms.Fixed t size)) ≡ true)
IsTooLarge s (forms.Opaque size) = passes_most (declared_bytes s.types s.constants (forms.Opaque size)) ≡ true
IsTooLarge s _ = ⊥

-- what is wrong with the size of a declaration
pub data IsSizeWrong (s : Scope) (f : Form) : Type 0 where
  out_of_range : is_out_of_range s.constants (form_bound_word f) ≡ true → IsSizeWrong s f
  hollow_array : IsHollowArray s f → IsSizeWrong s f
  too_large : IsTooLarge s f → IsSizeWrong s f

-- a type of this name, which holds no endless one and whose smallest encoding is too large
pub record IsTypeTooLarge (s : Scope) (n : List ℕ) : Type 0 where
  pub place : ℕ
  pub stands : place_of n (type_names s.types) ≡ Some place
  pub ends : HoldsNoEndless s.types (Some place)
  pub too_large : passes_most (bytes_at s.types s.constants place) ≡ true

-- an arm has a case
abbrev pub has_case_word : List ConstWord → Bool
has_case_word [] = false
has_case_word (c ∷ cs) = true

-- one of the arms at least has a case
abbrev pub has_arm : List ArmItem → Bool
has_arm [] = false
has_arm (a ∷ more) = has_case_word a.cases || has_arm more

-- a union may have the tag: an int, an unsigned, a bool or an enum
abbrev pub is_tag : Tag → Bool
is_tag tags.Other = false
is_tag _ = true

-- a value out of the range of int
abbrev pub is_no_int : Option ℤ → Bool
is_no_int None = false
is_no_int (Some z) = not (is_within (2 ^ 31) z)

-- a constant in a ring, or a member out of the range of int
pub data IsConstantWrong (cs : List ConstantDef) (i : ℕ) (is_member : Bool) : Type 0 where
  ring : Leads (constant_ways cs) i i → IsConstantWrong cs i is_member
  no_int : (is_member && is_no_int (value_at cs i)) ≡ true → IsConstantWrong cs i is_member

-- a case that isn't a value of its tag's type
abbrev pub is_no_case : Scope → TypeWord → Option ℤ → Bool
is_no_case s tag None = false
is_no_case s tag (Some z) = not (has_case s.types s.constants (tag_of s.types tag) z)

-- what is wrong with a union: no arm, another tag, or its smallest encoding
pub data IsUnionWrong (s : Scope) (n : List ℕ) (tag : TypeWord) (arms : List ArmItem) (has_default : Bool)
    : Type 0 where
  no_arm : (has_default || has_arm arms) ≡ false → IsUnionWrong s n tag arms has_default
  no_tag : is_tag (tag_of s.types tag) ≡ false → IsUnionWrong s n tag arms has_default
  union_too_large : IsTypeTooLarge s n → IsUnionWrong s n tag arms has_default

-- what is wrong by its size, value, case or encoding; no text of the grammar has an enum without a member
abbrev pub IsWrong : Scope → Mark → Type 0
IsWrong s (declares space n) = ⊥
IsWrong s (uses_type t) = ⊥
IsWrong s (uses_constant w) = ⊥
IsWrong s (union_case item n tag w) = is_no_case s tag (value_of s.constants w) ≡ true
IsWrong s (valued n is_member) =
    (i : ℕ) × (place_of n (constant_names s.constants) ≡ Some i) × IsConstantWrong s.constants i is_member
IsWrong s (sized d) = IsSizeWrong s d.form
IsWrong s (enum_type n ms) = ms ≡ []
IsWrong s (struct_type n) = IsTypeTooLarge s n
IsWrong s (union_type n tag arms has_default) = IsUnionWrong s n tag arms has_default

-- what is wrong stands there
pub record IsSizeFault (s : Scope) (marks : List Mark) (k : ℕ) : Type 0 where
  pub mark : Mark
  pub stands : slice_get marks k ≡ Some mark
  pub wrong : IsWrong s mark

-- ---- opcodes

-- the opcode of the procedure of this number, where it has one from 0 to 4294967295
abbrev pub opcode_at : List (List ℕ × Option ℤ) → ℕ → Option ℕ
opcode_at ops k = option_and_then (λ (p : List ℕ × Option ℤ). in_32_bits p.1) (slice_get ops k)

-- a procedure without an opcode
pub record IsWithoutOpcode (ops : List (List ℕ × Option ℤ)) (k : ℕ) : Type 0 where
  pub there : k < length ops
  pub none : opcode_at ops k ≡ None

-- the second of two procedures with one opcode
pub record IsOpcodeTwice (ops : List (List ℕ × Option ℤ)) (k : ℕ) : Type 0 where
  pub opcode : ℕ
  pub has : opcode_at ops k ≡ Some opcode
  pub earlier : ℕ
  pub before : earlier < k
  pub had : opcode_at ops earlier ≡ Some opcode
