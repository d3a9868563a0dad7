-- The faults of a text: where each stands, and how it is printed. Public clauses cite this module.
use Rattle.std.specs.Prelude.{ℕ, List, codes}
use Rattle.xg_lex.specs.declared.fault.LexFault.{LexFault}
use Rattle.xg_lex.specs.declared.fault.LexFault.TheVariants as lexing
use Rattle.xg_lex.specs.Faults.{fault_text}
use Rattle.xg_parse.specs.declared.fault.ParseFault.{ParseFault}
use Rattle.xg_parse.specs.declared.fault.ParseFault.TheVariants as parsing
use Rattle.xg_parse.specs.Refusals.{refusal_text}
use Rattle.xg_check.specs.declared.fault.CheckFault.{CheckFault}
use Rattle.xg_check.specs.declared.fault.CheckFault.TheVariants as checking
use Rattle.xg_check.specs.Texts.{check_text}
use Rattle.xg_compile.specs.declared.fault.CompileFault.{CompileFault}
use Rattle.xg_compile.specs.declared.fault.CompileFault.TheVariants.{Lex, Parse, Check, OutOfMemory}

-- the line of a fault of the tokens
abbrev pub lex_line : LexFault → ℕ
lex_line (lexing.BadLine line) = line
lex_line (lexing.BadNumber line) = line
lex_line (lexing.BadChar line) = line
lex_line lexing.OutOfMemory = 0

-- the line of a fault of the grammar
abbrev pub parse_line : ParseFault → ℕ
parse_line (parsing.Unexpected line want) = line
parse_line (parsing.OutByName line word) = line
parse_line parsing.OutOfMemory = 0

-- the line of a fault, and 0 where it is of no line
abbrev pub line_of : CompileFault → ℕ
line_of (Lex fault) = lex_line fault
line_of (Parse fault) = parse_line fault
line_of (Check fault) = 0
line_of OutOfMemory = 0

-- a fault as it is printed
abbrev pub why_text : CompileFault → List ℕ
why_text (Lex fault) = fault_text fault
why_text (Parse fault) = refusal_text fault
why_text (Check fault) = check_text fault
why_text OutOfMemory = codes "out of memory"

-- what a fault of the tokens is as one of the text; want of memory is one thing wherever it comes
abbrev pub lex_fault : LexFault → CompileFault
lex_fault (lexing.BadLine line) = Lex (lexing.BadLine line)
lex_fault (lexing.BadNumber line) = Lex (lexing.BadNumber line)
lex_fault (lexing.BadChar line) = Lex (lexing.BadChar line)
lex_fault lexing.OutOfMemory = OutOfMemory

-- the same of a fault of the grammar
abbrev pub parse_fault : ParseFault → CompileFault
parse_fault (parsing.Unexpected line want) = Parse (parsing.Unexpected line want)
parse_fault (parsing.OutByName line word) = Parse (parsing.OutByName line word)
parse_fault parsing.OutOfMemory = OutOfMemory

-- the same of a fault of the meaning
abbrev pub check_fault : CheckFault → CompileFault
check_fault (checking.Twice name) = Check (checking.Twice name)
check_fault (checking.Unknown name) = Check (checking.Unknown name)
check_fault (checking.Size name) = Check (checking.Size name)
check_fault (checking.Endless name) = Check (checking.Endless name)
check_fault (checking.Opcode name) = Check (checking.Opcode name)
check_fault (checking.OpcodeTwice n) = Check (checking.OpcodeTwice n)
check_fault checking.OutOfMemory = OutOfMemory
