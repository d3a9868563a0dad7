-- What types, values and interfaces are, without where they lie in memory. Public clauses cite this module.
use Rattle.std.specs.Prelude.{ℕ, ℤ, Bool, List, Option}
use Rattle.xdr_value.specs.declared.ty.Basic.{Basic}
use Rattle.xdr_value.specs.declared.def.Mode.{Mode}

-- a type
pub data Kind : Type 0 where
  basic : Basic → Kind
  array : Kind → ℕ → Kind
  array_up_to : Kind → ℕ → Kind
  maybe : Kind → Kind
  named : List ℕ → Kind

-- a value, and a list of values
mutual
  -- a value: a number or a member's number, a bool, content, the values of a list or a struct, a tag with its arm,
  -- optional data that is not there or is, or void
  pub data Datum : Type 0 where
    number : ℤ → Datum
    flag : Bool → Datum
    octets : List ℕ → Datum
    items : Data → Datum
    union : Datum → Datum → Datum
    none : Datum
    some : Datum → Datum
    nothing : Datum

  -- values one after the other
  pub data Data : Type 0 where
    end : Data
    more : Datum → Data → Data

-- a field: its name and its type
pub record Part : Type 0 where
  pub name : List ℕ
  pub kind : Kind

-- an arm of a union: its case, or the default, and its field, or void
pub record Choice : Type 0 where
  pub case : Option ℤ
  pub part : Option Part

-- what a name of an interface stands for
pub data Form : Type 0 where
  alias : Kind → Form
  enum : List (List ℕ × ℤ) → Form
  struct : List Part → Form
  choice : Kind → List Choice → Form

-- the definitions of an interface, in order
abbrev pub Types : Type 0
Types = List (List ℕ × Form)

-- an argument of a procedure
pub record Param : Type 0 where
  pub name : List ℕ
  pub mode : Mode
  pub kind : Kind

-- a procedure
pub record Procedure : Type 0 where
  pub name : List ℕ
  pub opcode : ℕ
  pub split : Bool
  pub multi : Bool
  pub params : List Param

-- the procedures of an interface, in order
abbrev pub Procs : Type 0
Procs = List Procedure
