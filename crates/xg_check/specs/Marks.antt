-- What stands in a text and is judged, in the order of the text. Public clauses cite this module.
use Rattle.std.specs.Prelude.{ℕ, suc, Bool, true, false, List, [], ◌∷◌, ◌++◌, Option, Some, None, is_some, flat_map}
use Rattle.xg_parse.specs.declared.tree.ConstWord.{ConstWord}
use Rattle.xg_parse.specs.declared.tree.ConstWord.TheVariants as consts
use Rattle.xg_parse.specs.declared.tree.TypeWord.{TypeWord}
use Rattle.xg_parse.specs.declared.tree.TypeWord.TheVariants as types
use Rattle.xg_parse.specs.declared.tree.Form.{Form}
use Rattle.xg_parse.specs.declared.tree.Form.TheVariants as forms
use Rattle.xg_parse.specs.declared.tree.Decl.{Decl}
use Rattle.xg_parse.specs.declared.tree.MembItem.{MembItem}
use Rattle.xg_parse.specs.declared.tree.ArmItem.{ArmItem}
use Rattle.xg_parse.specs.declared.tree.ArgItem.{ArgItem}
use Rattle.xg_parse.specs.declared.tree.Part.{Part}
use Rattle.xg_parse.specs.declared.tree.Part.TheVariants as parts
use Rattle.xg_parse.specs.declared.tree.Item.{Item}
use Rattle.xg_check.specs.declared.marks.Space.{Space}
use Rattle.xg_check.specs.declared.marks.Space.TheVariants as spaces

-- what stands at a place of a text and is judged there
pub data Mark : Type 0 where
  -- a name is declared: a type, a constant, a procedure, or one of the list of the item of a number
  declares : Space → List ℕ → Mark
  -- a case of the union of a name and a tag, in the item of a number
  union_case : ℕ → List ℕ → TypeWord → ConstWord → Mark
  -- a type is used
  uses_type : TypeWord → Mark
  -- a constant is used
  uses_constant : ConstWord → Mark
  -- a constant is defined, as a member or not
  valued : List ℕ → Bool → Mark
  -- a typedef, a field or an argument is declared
  sized : Decl → Mark
  -- an enum, a struct or a union is defined
  enum_type : List ℕ → List MembItem → Mark
  struct_type : List ℕ → Mark
  union_type : List ℕ → TypeWord → List ArmItem → Bool → Mark

-- the name of a type: its words, or the one that was defined
abbrev pub type_word_name : TypeWord → List ℕ
type_word_name (types.Base words) = words
type_word_name (types.Name name) = name

-- the name of a constant; a number has the empty one
abbrev pub const_word_name : ConstWord → List ℕ
const_word_name (consts.Literal minus n) = []
const_word_name (consts.Name name) = name

-- the name by which a fault there goes
abbrev pub mark_name : Mark → List ℕ
mark_name (declares space n) = n
mark_name (union_case item n tag value) = n
mark_name (uses_type word) = type_word_name word
mark_name (uses_constant word) = const_word_name word
mark_name (valued n is_member) = n
mark_name (sized decl) = decl.name
mark_name (enum_type n members) = n
mark_name (struct_type n) = n
mark_name (union_type n tag arms has_default) = n

-- the use of a constant, if one is written
abbrev pub optional_constant : Option ConstWord → List Mark
optional_constant None = []
optional_constant (Some w) = uses_constant w ∷ []

-- the use of the type in a declaration; opaque and string use none
abbrev pub form_type : Form → List Mark
form_type (forms.Plain t) = uses_type t ∷ []
form_type (forms.Star t) = uses_type t ∷ []
form_type (forms.Fixed t size) = uses_type t ∷ []
form_type (forms.UpTo t most) = uses_type t ∷ []
form_type (forms.Opaque size) = []
form_type (forms.OpaqueUpTo most) = []
form_type (forms.Text most) = []

-- the use of the constant that is the bound or the size of a declaration, if it has one
abbrev pub form_bound : Form → List Mark
form_bound (forms.Plain t) = []
form_bound (forms.Star t) = []
form_bound (forms.Fixed t size) = uses_constant size ∷ []
form_bound (forms.UpTo t most) = optional_constant most
form_bound (forms.Opaque size) = uses_constant size ∷ []
form_bound (forms.OpaqueUpTo most) = optional_constant most
form_bound (forms.Text most) = optional_constant most

-- a name where it has to be the only one; the name of an arm's field needn't be
abbrev pub optional_name : Option Space → List ℕ → List Mark
optional_name None n = []
optional_name (Some space) n = declares space n ∷ []

-- a declaration: its type, its name and its bound
abbrev pub decl_marks : Option Space → Decl → List Mark
decl_marks space d = form_type d.form ++ (optional_name space d.name ++ (sized d ∷ form_bound d.form))

-- a member of an enum: its name, its value, and the constant that gives the value, if one is written
abbrev pub member_marks : MembItem → List Mark
member_marks m = declares spaces.Constant m.name ∷ valued m.name true ∷ optional_constant m.value

-- a field of the item of this number
abbrev pub field_marks : ℕ → Decl → List Mark
field_marks item d = decl_marks (Some (spaces.List item)) d

-- an argument of the item of this number
abbrev pub arg_marks : ℕ → ArgItem → List Mark
arg_marks item a = decl_marks (Some (spaces.List item)) a.decl

-- a case of the union of this name and tag, in the item of this number, and the constant that it uses
abbrev pub case_marks : ℕ → List ℕ → TypeWord → ConstWord → List Mark
case_marks item n tag c = union_case item n tag c ∷ uses_constant c ∷ []

-- two arms of a union may have one field name
abbrev pub held_marks : Option Decl → List Mark
held_marks None = []
held_marks (Some d) = decl_marks None d

-- an arm of the union of this name and tag, in the item of this number: its cases and what it declares
abbrev pub arm_marks : ℕ → List ℕ → TypeWord → ArmItem → List Mark
arm_marks item n tag a = flat_map (case_marks item n tag) a.cases ++ held_marks a.decl

-- what the default arm of a union declares, if there is one
abbrev pub default_marks : Option ArmItem → List Mark
default_marks None = []
default_marks (Some a) = held_marks a.decl

-- a part, in the item of this number
abbrev pub part_marks : ℕ → Part → List Mark
part_marks item (parts.Package n) = []
part_marks item (parts.Prefix n) = []
part_marks item (parts.StatIndex w) = uses_constant w ∷ []
part_marks item (parts.StartingOpcode w) = uses_constant w ∷ []
part_marks item (parts.Const n w) = declares spaces.Constant n ∷ valued n false ∷ uses_constant w ∷ []
part_marks item (parts.Typedef d) = decl_marks (Some spaces.Type) d
part_marks item (parts.Enum n ms) = (declares spaces.Type n ∷ enum_type n ms ∷ []) ++ flat_map member_marks ms
part_marks item (parts.Struct n ds) = (declares spaces.Type n ∷ struct_type n ∷ []) ++ flat_map (field_marks item) ds
part_marks item (parts.Union n tag tag_name arms otherwise) =
    (declares spaces.Type n ∷ union_type n tag arms (is_some otherwise) ∷ uses_type tag ∷ [])
    ++ (flat_map (arm_marks item n tag) arms ++ default_marks otherwise)
part_marks item (parts.Proc n args kind opcode) =
    (declares spaces.Procedure n ∷ []) ++ (flat_map (arg_marks item) args ++ optional_constant opcode)

-- what is judged in the items, the first of which has this number
abbrev pub marks_from : ℕ → List Item → List Mark
marks_from item [] = []
marks_from item (i ∷ is) = part_marks item i.part ++ marks_from (suc item) is

-- what is judged in a text, in its order
abbrev pub marks_in : List Item → List Mark
marks_in items = marks_from 0 items
