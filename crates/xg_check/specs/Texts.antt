-- A fault as it is printed. Public clauses cite this module.
use Rattle.std.specs.Prelude.{ℕ, List, ◌++◌, codes, decimal}
use Rattle.xg_check.specs.declared.fault.CheckFault.{CheckFault}
use Rattle.xg_check.specs.declared.fault.CheckFault.TheVariants as faults

-- its word, and what it is of
abbrev pub check_text : CheckFault → List ℕ
check_text (faults.Twice name) = codes "twice " ++ name
check_text (faults.Unknown name) = codes "unknown " ++ name
check_text (faults.Size name) = codes "size " ++ name
check_text (faults.Endless name) = codes "endless " ++ name
check_text (faults.Opcode name) = codes "opcode " ++ name
check_text (faults.OpcodeTwice n) = codes "opcodetwice " ++ decimal n
check_text faults.OutOfMemory = codes "out of memory"
