-- Opcodes as the code counts them. No public clause cites this module.
use Rattle.std.specs.Prelude.{◌≡◌, ℕ, ℤ, ◌<◌, List, [], ◌∷◌, length, Option, Some, None, slice_get, option_and_then}
use Rattle.xdr_value.specs.Data.{Procs}
use Rattle.xg_parse.specs.declared.tree.Part.{Part}
use Rattle.xg_parse.specs.declared.tree.Part.TheVariants as parts
use Rattle.xg_check.specs.Constants.{ConstantDef, in_32_bits}
use Rattle.xg_check.specs.Meant.{proc_meant}

-- the opcode of this number, where it is one of 32 bits
abbrev pub number_at : List (Option ℤ) → ℕ → Option ℕ
number_at list k = option_and_then in_32_bits (slice_get list k)

-- there is none
pub record IsMissing (list : List (Option ℤ)) (k : ℕ) : Type 0 where
  pub there : k < length list
  pub none : number_at list k ≡ None

-- one before is the same
pub record StandsAgain (list : List (Option ℤ)) (k : ℕ) : Type 0 where
  pub opcode : ℕ
  pub has : number_at list k ≡ Some opcode
  pub earlier : ℕ
  pub before : earlier < k
  pub had : number_at list earlier ≡ Some opcode

-- the procedure that a part is, with this opcode
abbrev pub part_proc : List ConstantDef → Option ℤ → Part → Procs
part_proc cs opcode (parts.Proc name args kind given) = proc_meant cs opcode name args kind ∷ []
part_proc cs opcode _ = []
