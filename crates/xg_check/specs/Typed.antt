-- The types that a text defines, by their numbers in its order, and which each holds. Public clauses cite this module.
use Rattle.std.specs.Prelude.{ℕ, List, [], ◌++◌, Option, Some, None, map, filter, flat_map, is_some, unwrap_or}
use Rattle.std.specs.Prelude.{option_and_then}
use Rattle.xg_parse.specs.declared.tree.TypeWord.{TypeWord}
use Rattle.xg_parse.specs.declared.tree.TypeWord.TheVariants as types
use Rattle.xg_parse.specs.declared.tree.Form.{Form}
use Rattle.xg_parse.specs.declared.tree.Form.TheVariants as forms
use Rattle.xg_parse.specs.declared.tree.Decl.{Decl}
use Rattle.xg_parse.specs.declared.tree.ArmItem.{ArmItem}
use Rattle.xg_parse.specs.declared.tree.Part.{Part}
use Rattle.xg_parse.specs.declared.tree.Part.TheVariants as parts
use Rattle.xg_parse.specs.declared.tree.Item.{Item}
use Rattle.xg_check.specs.declared.types.Ways.{Ways}
use Rattle.xg_check.specs.declared.types.Ways.TheVariants as ways
use Rattle.xg_check.specs.Places.{place_of}
use Rattle.xg_check.specs.Constants.{one_or_none}

-- the name of a type that the part defines
abbrev pub type_name : Part → Option (List ℕ)
type_name (parts.Typedef decl) = Some decl.name
type_name (parts.Enum name members) = Some name
type_name (parts.Struct name fields) = Some name
type_name (parts.Union name tag tag_name arms otherwise) = Some name
type_name (parts.Package name) = None
type_name (parts.Prefix name) = None
type_name (parts.StatIndex number) = None
type_name (parts.StartingOpcode number) = None
type_name (parts.Const name value) = None
type_name (parts.Proc name args kind opcode) = None

-- the name of the type that a part defines, or the empty one
abbrev pub name_in : Part → List ℕ
name_in p = unwrap_or (type_name p) []

-- the parts that define types, in order
abbrev pub types_in : List Item → List Part
types_in items = filter (λ p. is_some (type_name p)) (map (λ (i : Item). i.part) items)

-- the names of the types, in order
abbrev pub type_names : List Part → List (List ℕ)
type_names ts = map name_in ts

-- the number of the type that the word names
abbrev pub word_place : List Part → TypeWord → Option ℕ
word_place ts (types.Base words) = None
word_place ts (types.Name name) = place_of name (type_names ts)

-- ---- which types each names

-- the type in a declaration: any, or only one that is held other than through optional data or a variable array
abbrev pub form_word : Ways → Form → Option TypeWord
form_word w (forms.Plain t) = Some t
form_word w (forms.Fixed t size) = Some t
form_word ways.All (forms.Star t) = Some t
form_word ways.Held (forms.Star t) = None
form_word ways.All (forms.UpTo t most) = Some t
form_word ways.Held (forms.UpTo t most) = None
form_word w (forms.Opaque size) = None
form_word w (forms.OpaqueUpTo most) = None
form_word w (forms.Text most) = None

-- the type that a declaration names, by its number, if it names one
abbrev pub decl_places : List Part → Ways → Decl → List ℕ
decl_places ts w d = one_or_none (option_and_then (word_place ts) (form_word w d.form))

-- the types that declarations name, by their numbers
abbrev pub decls_places : List Part → Ways → List Decl → List ℕ
decls_places ts w ds = flat_map (decl_places ts w) ds

-- the type that an arm's field names, by its number, if it has a field that names one
abbrev pub held_places : List Part → Ways → Option Decl → List ℕ
held_places ts w None = []
held_places ts w (Some d) = decl_places ts w d

-- the types that the fields of arms name, by their numbers
abbrev pub arms_places : List Part → Ways → List ArmItem → List ℕ
arms_places ts w arms = flat_map (λ (a : ArmItem). held_places ts w a.decl) arms

-- the type that the field of the default arm names, by its number, if it names one
abbrev pub default_places : List Part → Ways → Option ArmItem → List ℕ
default_places ts w None = []
default_places ts w (Some a) = held_places ts w a.decl

-- the types that the type of a part names, by their numbers
abbrev pub part_places : List Part → Ways → Part → List ℕ
part_places ts w (parts.Typedef decl) = decl_places ts w decl
part_places ts w (parts.Enum name members) = []
part_places ts w (parts.Struct name fields) = decls_places ts w fields
part_places ts w (parts.Union name tag tag_name arms otherwise) =
    one_or_none (word_place ts tag) ++ (arms_places ts w arms ++ default_places ts w otherwise)
part_places ts w (parts.Package name) = []
part_places ts w (parts.Prefix name) = []
part_places ts w (parts.StatIndex number) = []
part_places ts w (parts.StartingOpcode number) = []
part_places ts w (parts.Const name value) = []
part_places ts w (parts.Proc name args kind opcode) = []

-- the types that each type names
abbrev pub type_ways : List Part → Ways → List (List ℕ)
type_ways ts w = map (part_places ts w) ts
