use Rattle.xg_parse.proofs.FileLaws.{tree_clause, fault_clause, only_tree_clause, only_fault_clause}
use Rattle.xg_parse.proofs.parser.parse.Goals as goal

pub returns-clause-tree : goal.returns-clause-tree
returns-clause-tree c = tree_clause _ _ c.read_all.ensures

pub returns-clause-fault : goal.returns-clause-fault
returns-clause-fault c = fault_clause _ _ c.read_all.ensures

pub returns-clause-only_tree : goal.returns-clause-only_tree
returns-clause-only_tree c = only_tree_clause _ _ c.read_all.ensures

pub returns-clause-only_fault : goal.returns-clause-only_fault
returns-clause-only_fault c = only_fault_clause _ _ c.read_all.ensures
