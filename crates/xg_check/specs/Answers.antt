-- What the passes answer: the first place of which something holds, or that it holds nowhere. No public clause cites
-- this module.
use Rattle.std.specs.Prelude.{◌≡◌, ℕ, List, Option, Some, None, Result, Ok, Err, slice_get, ⊤}
use Rattle.std.specs.Borrow.{Bor}
use Rattle.xg_check.specs.Places.{IsFirst, HoldsNowhere}
use Rattle.xg_check.specs.Marks.{Mark, mark_name}
use Rattle.xdr_value.specs.declared.interface.Interface.{Interface}
use Rattle.xg_parse.specs.declared.tree.Tree.{Tree}
use Rattle.xg_check.specs.declared.fault.CheckFault.{CheckFault}
use Rattle.xg_check.specs.declared.fault.CheckFault.TheVariants as faults
use Rattle.xg_check.specs.Meaning.{interface_of, IsFirstFault, Meaning}

-- the name of what stands at the first place, or that there is none
abbrev pub IsFirstNamed : (ℕ → Type 0) → List Mark → Option (Bor (List ℕ)) → Type 0
IsFirstNamed P marks None = HoldsNowhere P
IsFirstNamed P marks (Some name) =
    (k : ℕ) × IsFirst P k × ((m : Mark) × (slice_get marks k ≡ Some m) × (name.now ≡ mark_name m))

-- the name that stands at the first place in a list, or that there is none
abbrev pub IsFirstOf : (ℕ → Type 0) → List (List ℕ) → Option (Bor (List ℕ)) → Type 0
IsFirstOf P names None = HoldsNowhere P
IsFirstOf P names (Some name) = (k : ℕ) × IsFirst P k × (slice_get names k ≡ Some name.now)

-- the first place, or that there is none
abbrev pub IsFirstPlace : (ℕ → Type 0) → Option ℕ → Type 0
IsFirstPlace P None = HoldsNowhere P
IsFirstPlace P (Some k) = IsFirst P k

-- the number at the first place, or that there is none
abbrev pub IsFirstNumber : (ℕ → Type 0) → (ℕ → Option ℕ) → Option ℕ → Type 0
IsFirstNumber P number None = HoldsNowhere P
IsFirstNumber P number (Some n) = (k : ℕ) × IsFirst P k × (number k ≡ Some n)

-- a fault that is the first, if it isn't that there is no memory
abbrev pub IsFaultOf : Tree → CheckFault → Type 0
IsFaultOf tree (faults.Twice name) = IsFirstFault tree (faults.Twice name)
IsFaultOf tree (faults.Unknown name) = IsFirstFault tree (faults.Unknown name)
IsFaultOf tree (faults.Size name) = IsFirstFault tree (faults.Size name)
IsFaultOf tree (faults.Endless name) = IsFirstFault tree (faults.Endless name)
IsFaultOf tree (faults.Opcode name) = IsFirstFault tree (faults.Opcode name)
IsFaultOf tree (faults.OpcodeTwice n) = IsFirstFault tree (faults.OpcodeTwice n)
IsFaultOf tree faults.OutOfMemory = ⊤

-- the answer is right, if it isn't that there is no memory
abbrev pub IsChecked : Tree → Result Interface CheckFault → Type 0
IsChecked tree (Ok i) = Meaning tree (interface_of i)
IsChecked tree (Err f) = IsFaultOf tree f
