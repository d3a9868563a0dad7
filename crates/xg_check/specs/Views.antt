-- What the code's own types stand for. No public clause cites this module.
use Rattle.std.specs.Prelude.{List, [], ◌∷◌, Option, Some, None, map}
use Rattle.xdr_value.specs.Data.{Types, Procs}
use Rattle.xdr_value.specs.View.{def_of, proc_of}
use Rattle.xdr_value.specs.declared.def.Def.{Def}
use Rattle.xdr_value.specs.declared.def.Proc.{Proc}
use Rattle.xg_check.specs.declared.constants.Given.{Given as CodeGiven}
use Rattle.xg_check.specs.declared.constants.Given.TheVariants as givens
use Rattle.xg_check.specs.declared.constants.Constant.{Constant as CodeConstant}
use Rattle.xg_check.specs.declared.marks.Mark.{Mark as CodeMark}
use Rattle.xg_check.specs.declared.marks.Mark.TheVariants as marks
use Rattle.xg_check.specs.Constants.{Given, word, first, next, ConstantDef}
use Rattle.xg_check.specs.Marks.{Mark, declares, union_case, uses_type, uses_constant, valued, sized, enum_type}
use Rattle.xg_check.specs.Marks.{struct_type, union_type}

-- where a constant has its value from, as the code keeps it
abbrev pub given_of : CodeGiven → Given
given_of (givens.Word w) = word w.now
given_of givens.First = first
given_of givens.Next = next

-- a constant, as the code keeps it
abbrev pub constant_of : CodeConstant → ConstantDef
constant_of c = record { name = c.name.now; given = given_of c.given; is_member = c.is_member }

-- constants, as the code keeps them
abbrev pub constants_of : List CodeConstant → List ConstantDef
constants_of cs = map constant_of cs

-- what is judged at a place, as the code keeps it
abbrev pub mark_of : CodeMark → Mark
mark_of (marks.Name space n) = declares space n.now
mark_of (marks.Case item n tag w) = union_case item n.now tag.now w.now
mark_of (marks.Type t) = uses_type t.now
mark_of (marks.Number w) = uses_constant w.now
mark_of (marks.Constant n is_member) = valued n.now is_member
mark_of (marks.Sized d) = sized d.now
mark_of (marks.Enum n ms) = enum_type n.now ms.now
mark_of (marks.Struct n) = struct_type n.now
mark_of (marks.Union n tag arms has_default) = union_type n.now tag.now arms.now has_default

-- what is judged in a text, as the code keeps it
abbrev pub marks_of : List CodeMark → List Mark
marks_of ms = map mark_of ms

-- the definition, if there is one
abbrev pub optional_type : Option Def → Types
optional_type None = []
optional_type (Some d) = def_of d ∷ []

-- the procedure, if there is one
abbrev pub optional_proc : Option Proc → Procs
optional_proc None = []
optional_proc (Some p) = proc_of p ∷ []
