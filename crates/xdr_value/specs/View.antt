-- The data that the types of the code stand for. Public clauses cite this module.
use Rattle.std.specs.Prelude.{ℕ, ℤ, List, [], ◌∷◌, Some, None, option_map, map, string_bytes}
use Rattle.xdr_value.specs.declared.ty.Basic.TheVariants as basics
use Rattle.xdr_value.specs.Data.{Kind, basic, array, array_up_to, maybe, named, Datum, number, flag, octets, items}
use Rattle.xdr_value.specs.Data.{union, none, some, nothing, Data, end, more, Part, Choice, Form, alias, enum, struct}
use Rattle.xdr_value.specs.Data.{choice, Types, Param, Procedure, Procs}
use Rattle.xdr_value.specs.declared.ty.Ty.{Ty, fold-Ty}
use Rattle.xdr_value.specs.declared.ty.Ty.TheOpen.{Ty-F}
use Rattle.xdr_value.specs.declared.value.Value.{Value, fold-Value}
use Rattle.xdr_value.specs.declared.value.Value.TheOpen.{Value-F}
use Rattle.xdr_value.specs.declared.def.Field.{Field}
use Rattle.xdr_value.specs.declared.def.Member.{Member}
use Rattle.xdr_value.specs.declared.def.Arm.{Arm}
use Rattle.xdr_value.specs.declared.def.Def.{Def}
use Rattle.xdr_value.specs.declared.def.Shape.{Shape}
use Rattle.xdr_value.specs.declared.def.Arg.{Arg}
use Rattle.xdr_value.specs.declared.def.Proc.{Proc}
use Rattle.xdr_value.specs.declared.def.Shape.TheVariants.{Alias, Enum, Struct, Union}

-- the type, where those that it holds were looked at
abbrev pub ty_step : Ty-F Kind → Kind
ty_step Ty-F.Int = basic basics.Int
ty_step Ty-F.Uint = basic basics.Uint
ty_step Ty-F.Hyper = basic basics.Hyper
ty_step Ty-F.Uhyper = basic basics.Uhyper
ty_step Ty-F.Short = basic basics.Short
ty_step Ty-F.Ushort = basic basics.Ushort
ty_step Ty-F.Char = basic basics.Char
ty_step Ty-F.Uchar = basic basics.Uchar
ty_step Ty-F.Bool = basic basics.Bool
ty_step Ty-F.Void = basic basics.Void
ty_step (Ty-F.Opaque n) = basic (basics.Opaque n)
ty_step (Ty-F.OpaqueUpTo n) = basic (basics.OpaqueUpTo n)
ty_step (Ty-F.Text n) = basic (basics.Text n)
ty_step (Ty-F.Array k n) = array k.value n
ty_step (Ty-F.ArrayUpTo k n) = array_up_to k.value n
ty_step (Ty-F.Maybe k) = maybe k.value
ty_step (Ty-F.Named s place) = named (string_bytes s)

-- the type
abbrev pub kind_of : Ty → Kind
kind_of = fold-Ty Kind ty_step

-- a list as data
abbrev pub data_of : List Datum → Data
data_of [] = end
data_of (d ∷ ds) = more d (data_of ds)

-- the value, where those that it holds were looked at
abbrev pub value_step : Value-F Datum → Datum
value_step (Value-F.Number n) = number n
value_step (Value-F.Flag b) = flag b
value_step (Value-F.Octets v) = octets v.items
value_step (Value-F.List v) = items (data_of v.items)
value_step (Value-F.Union t a) = union t.value a.value
value_step (Value-F.Maybe None) = none
value_step (Value-F.Maybe (Some b)) = some b.value
value_step Value-F.Void = nothing

-- the value
abbrev pub value_of : Value → Datum
value_of = fold-Value Datum value_step

-- the values
abbrev pub values_of : List Value → Data
values_of vs = data_of (map value_of vs)

-- the field
abbrev pub part_of : Field → Part
part_of f = record { name = string_bytes f.name; kind = kind_of f.ty }

-- the member: its name and its number
abbrev pub member_of : Member → List ℕ × ℤ
member_of m = (string_bytes m.name, m.number)

-- the arm
abbrev pub choice_of : Arm → Choice
choice_of a = record { case = a.case; part = option_map part_of a.field }

-- what a name stands for
abbrev pub form_of : Shape → Form
form_of (Alias t) = alias (kind_of t)
form_of (Enum ms) = enum (map member_of ms.items)
form_of (Struct fs) = struct (map part_of fs.items)
form_of (Union t arms) = choice (kind_of t) (map choice_of arms.items)

-- the name with what it stands for
abbrev pub def_of : Def → List ℕ × Form
def_of d = (string_bytes d.name, form_of d.shape)

-- the definitions
abbrev pub types_of : List Def → Types
types_of = map def_of

-- the argument
abbrev pub param_of : Arg → Param
param_of a = record { name = string_bytes a.name; mode = a.mode; kind = kind_of a.ty }

-- the procedure
abbrev pub proc_of : Proc → Procedure
proc_of p = record {
  name = string_bytes p.name;
  opcode = p.opcode;
  split = p.split;
  multi = p.multi;
  params = map
      param_of p.args.items;
}

-- the procedures
abbrev pub procs_of : List Proc → Procs
procs_of ps = map proc_of ps
