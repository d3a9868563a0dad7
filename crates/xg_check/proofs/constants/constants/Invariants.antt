use Rattle.std.proofs.Common.{◌≡◌, take}
use Rattle.xg_check.specs.Constants.{constants_in}
use Rattle.xg_check.specs.Views.{constants_of}
use Rattle.xg_check.proofs.constants.constants.Given as goal

abbrev pub invariant-loop-item : goal.invariant-loop-item
invariant-loop-item l = constants_of l.list.items ≡ constants_in (take l.item-index l.item-items)
