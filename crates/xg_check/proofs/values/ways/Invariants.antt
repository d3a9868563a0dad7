use Rattle.std.proofs.Common.{◌≡◌, map, take}
use Rattle.xg_check.specs.Constants.{ways_from}
use Rattle.xg_check.specs.Views.{constants_of}
use Rattle.xg_check.proofs.values.ways.Given as goal

abbrev pub invariant-loop-at : goal.invariant-loop-at
invariant-loop-at l = map (λ v. v.items) l.next.items
    ≡ ways_from (constants_of l.list) 0 (take l.at (constants_of l.list))
