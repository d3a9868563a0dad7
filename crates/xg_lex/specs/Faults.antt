-- A fault as it is printed. Public clauses cite this module.
use Rattle.std.specs.Prelude.{ℕ, List, codes}
use Rattle.xg_lex.specs.declared.fault.LexFault.{LexFault}
use Rattle.xg_lex.specs.declared.fault.LexFault.TheVariants.{BadLine, BadNumber, BadChar, OutOfMemory}

-- its word
abbrev pub fault_text : LexFault → List ℕ
fault_text (BadLine line) = codes "badline"
fault_text (BadNumber line) = codes "badnumber"
fault_text (BadChar line) = codes "badchar"
fault_text OutOfMemory = codes "out of memory"
