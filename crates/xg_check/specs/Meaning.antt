-- The meaning of a text: its interface, or its first fault. Public clauses cite this module.
use Rattle.std.specs.Prelude.{◌≡◌, ℕ, ℤ, List, Option, Some, option_map, map, slice_get, string_bytes}
use Rattle.xdr_value.specs.Data.{Types, Procs}
use Rattle.xdr_value.specs.View.{types_of, procs_of}
use Rattle.xdr_value.specs.declared.interface.Interface.{Interface}
use Rattle.xg_parse.specs.declared.tree.Tree.{Tree}
use Rattle.xg_check.specs.declared.fault.CheckFault.{CheckFault}
use Rattle.xg_check.specs.declared.fault.CheckFault.TheVariants as faults
use Rattle.xg_check.specs.Places.{IsFirst, HoldsNowhere}
use Rattle.xg_check.specs.Constants.{constants_in}
use Rattle.xg_check.specs.Typed.{types_in, type_names}
use Rattle.xg_check.specs.Marks.{Mark, mark_name, marks_in}
use Rattle.xg_check.specs.Opcodes.{opcodes_in}
use Rattle.xg_check.specs.Judged.{scope_of, IsTwice, IsUnknown, IsSizeFault, IsEndless, opcode_at, IsWithoutOpcode}
use Rattle.xg_check.specs.Judged.{IsOpcodeTwice}
use Rattle.xg_check.specs.Meant.{types_meant, procs_meant, package_in, prefix_in}

-- an interface, without where it lies in memory
pub record Meant : Type 0 where
  pub «package» : Option (List ℕ)
  pub prefix : Option (List ℕ)
  pub types : Types
  pub procs : Procs

-- an interface that lies in memory, as what it stands for
abbrev pub interface_of : Interface → Meant
interface_of i = record {
  «package» = option_map string_bytes i.«package»;
  prefix = option_map string_bytes i.prefix;
  types = types_of i.types.items;
  procs = procs_of i.procs.items;
}

-- ---- the faults of a text, by their places

-- what is judged in a text, in its order
abbrev pub marks_of : Tree → List Mark
marks_of tree = marks_in tree.items

-- the name and the opcode of each procedure of a text
abbrev pub opcodes_of : Tree → List (List ℕ × Option ℤ)
opcodes_of tree = opcodes_in (constants_in tree.items) tree.items

-- at this place stands the second of two of one name, or of two cases of one value
abbrev pub TwiceAt : Tree → ℕ → Type 0
TwiceAt tree = IsTwice (constants_in tree.items) (marks_of tree)

-- at this place a type or a constant is used that isn't defined
abbrev pub UnknownAt : Tree → ℕ → Type 0
UnknownAt tree = IsUnknown (scope_of tree) (marks_of tree)

-- at this place stands what is wrong by its size, value, case or encoding
abbrev pub SizeAt : Tree → ℕ → Type 0
SizeAt tree = IsSizeFault (scope_of tree) (marks_of tree)

-- the type of this number is endless
abbrev pub EndlessAt : Tree → ℕ → Type 0
EndlessAt tree = IsEndless (types_in tree.items)

-- the procedure of this number has no opcode
abbrev pub OpcodeAt : Tree → ℕ → Type 0
OpcodeAt tree = IsWithoutOpcode (opcodes_of tree)

-- the procedure of this number has the opcode of one before it
abbrev pub OpcodeTwiceAt : Tree → ℕ → Type 0
OpcodeTwiceAt tree = IsOpcodeTwice (opcodes_of tree)

-- ---- the first of them

-- the name of what stands at the place, by which its fault goes
abbrev pub MarkNamed : Tree → ℕ → List ℕ → Type 0
MarkNamed tree k name = (m : Mark) × (slice_get (marks_of tree) k ≡ Some m) × (name ≡ mark_name m)

-- the type of this number has this name
abbrev pub TypeNamed : Tree → ℕ → List ℕ → Type 0
TypeNamed tree k name = slice_get (type_names (types_in tree.items)) k ≡ Some name

-- the procedure of this number has this name
abbrev pub ProcNamed : Tree → ℕ → List ℕ → Type 0
ProcNamed tree k name =
    slice_get (map (λ (p : List ℕ × Option ℤ). p.0) (opcodes_of tree)) k ≡ Some name

-- Of each kind the first place counts, and a kind comes only where there is none of those before.
abbrev pub IsFirstFault : Tree → CheckFault → Type 0
IsFirstFault tree (faults.Twice name) = (k : ℕ) × IsFirst (TwiceAt tree) k × MarkNamed tree k name
IsFirstFault tree (faults.Unknown name) =
    HoldsNowhere (TwiceAt tree) × ((k : ℕ) × IsFirst (UnknownAt tree) k × MarkNamed tree k name)
IsFirstFault tree (faults.Size name) =
    HoldsNowhere (TwiceAt tree) × HoldsNowhere (UnknownAt tree)
    × ((k : ℕ) × IsFirst (SizeAt tree) k × MarkNamed tree k name)
IsFirstFault tree (faults.Endless name) =
    HoldsNowhere (TwiceAt tree) × HoldsNowhere (UnknownAt tree) × HoldsNowhere (SizeAt tree)
    × ((k : ℕ) × IsFirst (EndlessAt tree) k × TypeNamed tree k name)
IsFirstFault tree (faults.Opcode name) =
    HoldsNowhere (TwiceAt tree) × HoldsNowhere (UnknownAt tree) × HoldsNowhere (SizeAt tree)
    × HoldsNowhere (EndlessAt tree)
    × ((k : ℕ) × IsFirst (OpcodeAt tree) k × ProcNamed tree k name)
IsFirstFault tree (faults.OpcodeTwice n) =
    HoldsNowhere (TwiceAt tree) × HoldsNowhere (UnknownAt tree) × HoldsNowhere (SizeAt tree)
    × HoldsNowhere (EndlessAt tree) × HoldsNowhere (OpcodeAt tree)
    × ((k : ℕ) × IsFirst (OpcodeTwiceAt tree) k × (opcode_at (opcodes_of tree) k ≡ Some n))
IsFirstFault tree faults.OutOfMemory = ⊥

-- no name stands twice, each is defined, each size is in its range, and no type is endless
pub record IsFaultless (tree : Tree) : Type 0 where
  pub twice : HoldsNowhere (TwiceAt tree)
  pub unknown : HoldsNowhere (UnknownAt tree)
  pub size : HoldsNowhere (SizeAt tree)
  pub endless : HoldsNowhere (EndlessAt tree)

-- ---- the interface

-- the interface that a text means, if it has no fault
abbrev pub meant_by : Tree → Meant
meant_by tree = record {
  «package» = package_in tree.items;
  prefix = prefix_in tree.items;
  types = types_meant (constants_in tree.items) tree.items;
  procs = procs_meant (constants_in tree.items) tree.items;
}

-- the text means the interface: it has no fault, and its types and procedures are those
pub record Meaning (tree : Tree) (meant : Meant) : Type 0 where
  pub faultless : IsFaultless tree
  pub opcode : HoldsNowhere (OpcodeAt tree)
  pub opcode_twice : HoldsNowhere (OpcodeTwiceAt tree)
  pub is : meant ≡ meant_by tree
