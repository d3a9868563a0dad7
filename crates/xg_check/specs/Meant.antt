-- The types and procedures that a text means. Public clauses cite this module.
use Rattle.std.specs.Prelude.{ℕ, ℤ, ◌^◌, if◌then◌else◌, Bool, true, false, List, [], ◌∷◌, ◌++◌, Option, Some, None, map}
use Rattle.std.specs.Prelude.{flat_map, unwrap_or}
use Rattle.std.specs.Option.{option_map}
use lib.IntN.{pos}
use Rattle.xdr_value.specs.Data.{Kind, basic, array, array_up_to, maybe, named, Part as Field, Choice, alias, enum}
use Rattle.xdr_value.specs.Data.{struct, choice, Types, Param, Procedure, Procs}
use Rattle.xdr_value.specs.Ranges.{is_within}
use Rattle.xdr_value.specs.declared.ty.Basic.{Basic}
use Rattle.xdr_value.specs.declared.ty.Basic.TheVariants as basics
use Rattle.xdr_value.specs.declared.def.Mode.{Mode}
use Rattle.xdr_value.specs.declared.def.Mode.TheVariants as modes
use Rattle.xg_parse.specs.declared.tree.ConstWord.{ConstWord}
use Rattle.xg_parse.specs.declared.tree.TypeWord.{TypeWord}
use Rattle.xg_parse.specs.declared.tree.TypeWord.TheVariants as types
use Rattle.xg_parse.specs.declared.tree.KindWord.{KindWord}
use Rattle.xg_parse.specs.declared.tree.KindWord.TheVariants as kinds
use Rattle.xg_parse.specs.declared.tree.ModeWord.{ModeWord}
use Rattle.xg_parse.specs.declared.tree.ModeWord.TheVariants as mode_words
use Rattle.xg_parse.specs.declared.tree.Form.{Form}
use Rattle.xg_parse.specs.declared.tree.Form.TheVariants as forms
use Rattle.xg_parse.specs.declared.tree.Decl.{Decl}
use Rattle.xg_parse.specs.declared.tree.MembItem.{MembItem}
use Rattle.xg_parse.specs.declared.tree.ArmItem.{ArmItem}
use Rattle.xg_parse.specs.declared.tree.ArgItem.{ArgItem}
use Rattle.xg_parse.specs.declared.tree.Part.{Part}
use Rattle.xg_parse.specs.declared.tree.Part.TheVariants as parts
use Rattle.xg_parse.specs.declared.tree.Item.{Item}
use Rattle.xg_check.specs.Bases.{base_named}
use Rattle.xg_check.specs.Constants.{ConstantDef, value_of, value_named, size_of, in_32_bits}
use Rattle.xg_check.specs.Opcodes.{opcode_behind}

-- ---- types

-- a word that is none of the language stands for void; such a text has a fault
abbrev pub base_kind : Option Basic → Kind
base_kind None = basic basics.Void
base_kind (Some b) = basic b

-- the type that a word means: one of the language, or one by its name
abbrev pub word_kind : TypeWord → Kind
word_kind (types.Base words) = base_kind (base_named words)
word_kind (types.Name name) = named name

-- the number of a size; 0 where it has none, and such a text has a fault
abbrev pub size_number : List ConstantDef → ConstWord → ℕ
size_number cs w = unwrap_or (size_of cs w) 0

-- no bound is the largest
abbrev pub bound_number : List ConstantDef → Option ConstWord → ℕ
bound_number cs None = 4294967295
bound_number cs (Some w) = size_number cs w

-- the type of what is declared so
abbrev pub form_kind : List ConstantDef → Form → Kind
form_kind cs (forms.Plain t) = word_kind t
form_kind cs (forms.Star t) = maybe (word_kind t)
form_kind cs (forms.Fixed t size) = array (word_kind t) (size_number cs size)
form_kind cs (forms.UpTo t most) = array_up_to (word_kind t) (bound_number cs most)
form_kind cs (forms.Opaque size) = basic (basics.Opaque (size_number cs size))
form_kind cs (forms.OpaqueUpTo most) = basic (basics.OpaqueUpTo (bound_number cs most))
form_kind cs (forms.Text most) = basic (basics.Text (bound_number cs most))

-- the field that a declaration means
abbrev pub field_meant : List ConstantDef → Decl → Field
field_meant cs d = record { name = d.name; kind = form_kind cs d.form }

-- 0 where there is no value of 64 bits; such a text has a fault
abbrev pub value_or_zero : Option ℤ → ℤ
value_or_zero None = pos 0
value_or_zero (Some z) = if is_within (2 ^ 63) z then z else pos 0

-- the name and the value of a member of an enum
abbrev pub member_meant : List ConstantDef → MembItem → List ℕ × ℤ
member_meant cs m = (m.name, value_or_zero (value_named cs m.name))

-- the field that an arm declares, unless it is `void`
abbrev pub held_meant : List ConstantDef → Option Decl → Option Field
held_meant cs d = option_map (field_meant cs) d

-- the arm for one case, with what it holds
abbrev pub case_meant : List ConstantDef → Option Field → ConstWord → Choice
case_meant cs held w = record { case = Some (value_or_zero (value_of cs w)); part = held }

-- one arm for each case
abbrev pub arm_meant : List ConstantDef → ArmItem → List Choice
arm_meant cs a = map (case_meant cs (held_meant cs a.decl)) a.cases

-- the default arm, if there is one
abbrev pub default_meant : List ConstantDef → Option ArmItem → List Choice
default_meant cs None = []
default_meant cs (Some a) = record { case = None; part = held_meant cs a.decl } ∷ []

-- the type that a part defines, if it does
abbrev pub part_type : List ConstantDef → Part → Types
part_type cs (parts.Typedef d) = (d.name, alias (form_kind cs d.form)) ∷ []
part_type cs (parts.Enum name ms) = (name, enum (map (member_meant cs) ms)) ∷ []
part_type cs (parts.Struct name ds) = (name, struct (map (field_meant cs) ds)) ∷ []
part_type cs (parts.Union name tag tag_name arms otherwise) =
    (name, choice (word_kind tag) (flat_map (arm_meant cs) arms ++ default_meant cs otherwise)) ∷ []
part_type cs (parts.Package name) = []
part_type cs (parts.Prefix name) = []
part_type cs (parts.StatIndex number) = []
part_type cs (parts.StartingOpcode number) = []
part_type cs (parts.Const name value) = []
part_type cs (parts.Proc name args kind opcode) = []

-- the types that a text defines, in its order
abbrev pub types_meant : List ConstantDef → List Item → Types
types_meant cs items = flat_map (λ (i : Item). part_type cs i.part) items

-- ---- procedures

-- the direction that a word means
abbrev pub mode_meant : ModeWord → Mode
mode_meant mode_words.In = modes.In
mode_meant mode_words.Out = modes.Out
mode_meant mode_words.InOut = modes.InOut

-- its own direction, or that of the argument before
abbrev pub mode_behind : Mode → Option ModeWord → Mode
mode_behind before None = before
mode_behind before (Some w) = mode_meant w

-- a star of an argument has no bytes
abbrev pub arg_kind : List ConstantDef → Form → Kind
arg_kind cs (forms.Star t) = word_kind t
arg_kind cs (forms.Plain t) = form_kind cs (forms.Plain t)
arg_kind cs (forms.Fixed t size) = form_kind cs (forms.Fixed t size)
arg_kind cs (forms.UpTo t most) = form_kind cs (forms.UpTo t most)
arg_kind cs (forms.Opaque size) = form_kind cs (forms.Opaque size)
arg_kind cs (forms.OpaqueUpTo most) = form_kind cs (forms.OpaqueUpTo most)
arg_kind cs (forms.Text most) = form_kind cs (forms.Text most)

-- arguments behind one of this direction
abbrev pub args_meant : List ConstantDef → Mode → List ArgItem → List Param
args_meant cs before [] = []
args_meant cs before (a ∷ more) =
    record { name = a.decl.name; mode = mode_behind before a.mode; kind = arg_kind cs a.decl.form }
    ∷ args_meant cs (mode_behind before a.mode) more

-- the two words behind arguments are one
abbrev pub same_kind : KindWord → KindWord → Bool
same_kind kinds.Split kinds.Split = true
same_kind kinds.Multi kinds.Multi = true
same_kind _ _ = false

-- the word behind the arguments is this one
abbrev pub has_kind : KindWord → Option KindWord → Bool
has_kind word None = false
has_kind word (Some other) = same_kind other word

-- A procedure with this opcode. Its first argument is IN.
abbrev pub proc_meant : List ConstantDef → Option ℤ → List ℕ → List ArgItem → Option KindWord → Procedure
proc_meant cs opcode name args kind = record {
  name = name;
  opcode = unwrap_or (in_32_bits opcode) 0;
  split = has_kind kinds.Split kind;
  multi = has_kind kinds.Multi kind;
  params = args_meant cs modes.In args;
}

-- the procedure that a part behind the front is, before others
abbrev pub with_proc : List ConstantDef → List Part → Part → Procs → Procs
with_proc cs front (parts.Proc name args kind opcode) rest =
    proc_meant cs (opcode_behind cs front opcode) name args kind ∷ rest
with_proc cs front _ rest = rest

-- the procedures of the items behind the front, whose parts come from the nearest to the first
abbrev pub procs_behind : List ConstantDef → List Part → List Item → Procs
procs_behind cs front [] = []
procs_behind cs front (i ∷ is) = with_proc cs front i.part (procs_behind cs (i.part ∷ front) is)

-- the procedures that a text defines, in its order
abbrev pub procs_meant : List ConstantDef → List Item → Procs
procs_meant cs items = procs_behind cs [] items

-- ---- the package and the prefix: the last counts

-- the name that stands behind, or else this one
abbrev pub or_name : Option (List ℕ) → List ℕ → Option (List ℕ)
or_name None name = Some name
or_name (Some behind) name = Some behind

-- the package that a part names, unless one is named behind it
abbrev pub part_package : Part → Option (List ℕ) → Option (List ℕ)
part_package (parts.Package name) behind = or_name behind name
part_package _ behind = behind

-- the last name that a text gives its package, if it gives one
abbrev pub package_in : List Item → Option (List ℕ)
package_in [] = None
package_in (i ∷ is) = part_package i.part (package_in is)

-- the prefix that a part names, unless one is named behind it
abbrev pub part_prefix : Part → Option (List ℕ) → Option (List ℕ)
part_prefix (parts.Prefix name) behind = or_name behind name
part_prefix _ behind = behind

-- the last prefix that a text names, if it names one
abbrev pub prefix_in : List Item → Option (List ℕ)
prefix_in [] = None
prefix_in (i ∷ is) = part_prefix i.part (prefix_in is)
