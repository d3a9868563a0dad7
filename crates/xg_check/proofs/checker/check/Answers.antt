use Rattle.xg_check.proofs.OneFault.{means, faulty, only_meaning, only_fault}
use Rattle.xg_check.proofs.checker.check.Goals as goal

pub returns-clause-means : goal.returns-clause-means
returns-clause-means c = means c.args.tree.now c.checked.result c.checked.ensures

pub returns-clause-fault : goal.returns-clause-fault
returns-clause-fault c = faulty c.args.tree.now c.checked.result c.checked.ensures

pub returns-clause-only_meaning : goal.returns-clause-only_meaning
returns-clause-only_meaning c = only_meaning c.args.tree.now c.checked.result c.checked.ensures

pub returns-clause-only_fault : goal.returns-clause-only_fault
returns-clause-only_fault c = only_fault c.args.tree.now c.checked.result c.checked.ensures
