use Rattle.std.proofs.Common.{◌≡◌, ◌++◌, take}
use Rattle.xg_check.specs.Constants.{members_from, first}
use Rattle.xg_check.specs.Views.{constants_of}
use Rattle.xg_check.proofs.constants.add_members.Given as goal

abbrev pub invariant-loop-at : goal.invariant-loop-at
invariant-loop-at l = constants_of l.list.items ≡ constants_of l.fn.list.items
    ++ members_from first (take l.at l.members)
