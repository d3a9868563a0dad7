-- Which tags of unions types are. Public clauses cite this module.
use Rattle.std.specs.Prelude.{ℕ, ℤ, zero, suc, ◌^◌, Bool, false, ◌||◌, List, [], ◌∷◌, length, Option, Some, None}
use Rattle.std.specs.Prelude.{slice_get}
use Rattle.std.specs.Ordering.{int_eq}
use Rattle.xdr_value.specs.Ranges.{is_below, is_within}
use Rattle.xdr_value.specs.declared.ty.Basic.{Basic}
use Rattle.xdr_value.specs.declared.ty.Basic.TheVariants as basics
use Rattle.xg_parse.specs.declared.tree.TypeWord.{TypeWord}
use Rattle.xg_parse.specs.declared.tree.TypeWord.TheVariants as types
use Rattle.xg_parse.specs.declared.tree.Form.{Form}
use Rattle.xg_parse.specs.declared.tree.Form.TheVariants as forms
use Rattle.xg_parse.specs.declared.tree.MembItem.{MembItem}
use Rattle.xg_parse.specs.declared.tree.Part.{Part}
use Rattle.xg_parse.specs.declared.tree.Part.TheVariants as parts
use Rattle.xg_check.specs.declared.tags.Tag.{Tag}
use Rattle.xg_check.specs.declared.tags.Tag.TheVariants as tags
use Rattle.xg_check.specs.Bases.{base_named}
use Rattle.xg_check.specs.Constants.{ConstantDef, value_named}
use Rattle.xg_check.specs.Typed.{word_place}

-- the tags that a union may have: RFC 4506, section 4.15
abbrev pub base_tag : Option Basic → Tag
base_tag (Some basics.Int) = tags.Int
base_tag (Some basics.Uint) = tags.Uint
base_tag (Some basics.Bool) = tags.Bool
base_tag _ = tags.Other

-- the tag that the type of this number is, where held has those of types; no union may have one that isn't defined
abbrev pub place_tag : (ℕ → Tag) → Option ℕ → Tag
place_tag held None = tags.Other
place_tag held (Some i) = held i

-- the tag that the type of the word is, where held has those of types by their numbers
abbrev pub word_tag : (ℕ → Tag) → List Part → TypeWord → Tag
word_tag held ts (types.Base words) = base_tag (base_named words)
word_tag held ts (types.Name name) = place_tag held (word_place ts (types.Name name))

-- an alias of one of the kinds is allowed
abbrev pub form_tag : (TypeWord → Tag) → Form → Tag
form_tag held (forms.Plain t) = held t
form_tag held (forms.Star t) = tags.Other
form_tag held (forms.Fixed t size) = tags.Other
form_tag held (forms.UpTo t most) = tags.Other
form_tag held (forms.Opaque size) = tags.Other
form_tag held (forms.OpaqueUpTo most) = tags.Other
form_tag held (forms.Text most) = tags.Other

-- an enum goes by its number
abbrev pub part_tag : (TypeWord → Tag) → ℕ → Option Part → Tag
part_tag held i (Some (parts.Typedef decl)) = form_tag held decl.form
part_tag held i (Some (parts.Enum name members)) = tags.Enum i
part_tag held i _ = tags.Other

-- the tag that the type of this number is, where at most so many names are followed
unfoldable pub tag_within : ℕ → List Part → ℕ → Tag
tag_within zero ts i = tags.Other
tag_within (suc n) ts i = part_tag (word_tag (tag_within n ts) ts) i (slice_get ts i)

-- the tag that the type of this number is
unfoldable pub tag_at : List Part → ℕ → Tag
tag_at ts i = tag_within (length ts) ts i

-- the tag that the type of the word is
abbrev pub tag_of : List Part → TypeWord → Tag
tag_of ts t = word_tag (tag_at ts) ts t

-- the value is there, and is this one
abbrev pub is_value : Option ℤ → ℤ → Bool
is_value None z = false
is_value (Some y) z = int_eq y z

-- one of the members has the value
abbrev pub members_have : List ConstantDef → List MembItem → ℤ → Bool
members_have cs [] z = false
members_have cs (m ∷ ms) z = is_value (value_named cs m.name) z || members_have cs ms z

-- the part is an enum, and one of its members has the value
abbrev pub enum_has : List ConstantDef → Option Part → ℤ → Bool
enum_has cs (Some (parts.Enum name members)) z = members_have cs members z
enum_has cs _ z = false

-- the value is one of the tag's type
abbrev pub has_case : List Part → List ConstantDef → Tag → ℤ → Bool
has_case ts cs tags.Int z = is_within (2 ^ 31) z
has_case ts cs tags.Uint z = is_below (2 ^ 32) z
has_case ts cs tags.Bool z = is_below 2 z
has_case ts cs (tags.Enum i) z = enum_has cs (slice_get ts i) z
has_case ts cs tags.Other z = false
