use Rattle.std.proofs.Common.{[], nat_eq, subst, sym}
use Rattle.std.specs.List.{IsDistinct}
use Rattle.xg_check.specs.Constants.{constants_in}
use Rattle.xg_check.specs.Opcodes.{opcodes_in}
use Rattle.xg_check.proofs.ProcLaws.{procs_differ, numbers_differ, numbers_meant}
use Rattle.xg_check.proofs.laws.procedures_differ.Goals as goal

pub returns-clause-names : goal.returns-clause-names
returns-clause-names c = λ tree h. procs_differ (constants_in tree.items) tree.items h

pub returns-clause-opcodes : goal.returns-clause-opcodes
returns-clause-opcodes c = λ tree has once.
    let cs = constants_in tree.items in
    subst (IsDistinct nat_eq) (sym (numbers_meant cs [] tree.items))
    (numbers_differ (opcodes_in cs tree.items) has once)
