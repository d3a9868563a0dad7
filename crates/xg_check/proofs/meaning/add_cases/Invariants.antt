use Rattle.std.proofs.Common.{◌≡◌, ◌++◌, map, take}
use Rattle.xdr_value.specs.View.{choice_of}
use Rattle.xg_check.specs.Meant.{case_meant, held_meant}
use Rattle.xg_check.proofs.meaning.add_cases.Given as goal

abbrev pub invariant-loop-case : goal.invariant-loop-case
invariant-loop-case l = map choice_of l.arms.items ≡ map choice_of l.fn.arms.items
    ++ map (case_meant l.constants (held_meant l.constants l.item.decl)) (take l.case-index l.case-items)
