-- The table of an interface as text. Public clauses cite this module.
use Rattle.std.specs.Prelude.{ℕ, ℤ, List, ◌++◌, Bool, if◌then◌else◌, Option, Some, None, codes, decimal}
use Rattle.std.specs.List.{flat_map}
use Rattle.std.specs.Fmt.{signed_decimal}
use Rattle.xdr_value.specs.declared.def.Mode.{Mode}
use Rattle.xdr_value.specs.declared.def.Mode.TheVariants as modes
use Rattle.xdr_value.specs.Data.{Kind, Part, Choice, Form, alias, enum, struct, choice, Types, Param, Procedure, Procs}
use Rattle.xdr_json.specs.TypeText.{type_text}
use Rattle.xg_check.specs.Meaning.{Meant}

-- the word, and `-` for a missing one
abbrev pub word_text : Option (List ℕ) → List ℕ
word_text None = codes "-"
word_text (Some word) = word

-- NAME:T
abbrev pub typed_text : List ℕ → Kind → List ℕ
typed_text name kind = name ++ (codes ":" ++ type_text kind)

-- a field of a struct, behind what stands before it
abbrev pub field_text : Part → List ℕ
field_text p = codes " " ++ typed_text p.name p.kind

-- a member of an enum
abbrev pub member_text : List ℕ × ℤ → List ℕ
member_text m = codes " " ++ (m.0 ++ (codes "=" ++ signed_decimal m.1))

-- the case of an arm
abbrev pub case_text : Option ℤ → List ℕ
case_text None = codes " default:"
case_text (Some value) = codes " case " ++ (signed_decimal value ++ codes ":")

-- what an arm holds
abbrev pub held_text : Option Part → List ℕ
held_text None = codes "void"
held_text (Some p) = typed_text p.name p.kind

-- an arm of a union
abbrev pub arm_text : Choice → List ℕ
arm_text c = case_text c.case ++ held_text c.part

-- the word of a type's line
abbrev pub form_word : Form → List ℕ
form_word (alias kind) = codes "type "
form_word (enum members) = codes "enum "
form_word (struct parts) = codes "struct "
form_word (choice tag arms) = codes "union "

-- what follows its name
abbrev pub form_text : Form → List ℕ
form_text (alias kind) = codes " " ++ type_text kind
form_text (enum members) = flat_map member_text members
form_text (struct parts) = flat_map field_text parts
form_text (choice tag arms) = codes " " ++ (type_text tag ++ flat_map arm_text arms)

-- the line of a type
abbrev pub type_line : List ℕ × Form → List ℕ
type_line d = form_word d.1 ++ (d.0 ++ (form_text d.1 ++ codes "\n"))

-- an argument's direction
abbrev pub mode_text : Mode → List ℕ
mode_text modes.In = codes " in:"
mode_text modes.Out = codes " out:"
mode_text modes.InOut = codes " inout:"

-- an argument of a procedure
abbrev pub param_text : Param → List ℕ
param_text p = mode_text p.mode ++ typed_text p.name p.kind

-- what kind of calls a procedure has
abbrev pub kind_text : Bool → Bool → List ℕ
kind_text split multi = if split then codes " split" else if multi then codes " multi" else codes " plain"

-- the line of a procedure
abbrev pub proc_line : Procedure → List ℕ
proc_line p = codes "proc " ++ (decimal p.opcode ++ (codes " " ++ (p.name ++ (kind_text p.split p.multi
    ++ (flat_map param_text p.params ++ codes "\n")))))

-- the line of the interface
abbrev pub head_line : Option (List ℕ) → Option (List ℕ) → List ℕ
head_line «package» prefix =
    codes "interface " ++ (word_text «package» ++ (codes " " ++ (word_text prefix ++ codes "\n")))

-- the table of an interface: its line, one for each type, and one for each procedure
abbrev pub table_text : Meant → List ℕ
table_text m = head_line m.«package» m.prefix ++ (flat_map type_line m.types ++ flat_map proc_line m.procs)
