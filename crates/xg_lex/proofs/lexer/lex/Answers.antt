use Rattle.xg_lex.proofs.OneReading.{tokens_told, fault_told, only_tokens, only_fault}
use Rattle.xg_lex.proofs.lexer.lex.Goals as goal

pub returns-clause-tokens : goal.returns-clause-tokens
returns-clause-tokens c = tokens_told _ _ c.read_parts.ensures

pub returns-clause-fault : goal.returns-clause-fault
returns-clause-fault c = fault_told _ _ c.read_parts.ensures

pub returns-clause-only_tokens : goal.returns-clause-only_tokens
returns-clause-only_tokens c = only_tokens _ _ c.read_parts.ensures

pub returns-clause-only_fault : goal.returns-clause-only_fault
returns-clause-only_fault c = only_fault _ _ c.read_parts.ensures
