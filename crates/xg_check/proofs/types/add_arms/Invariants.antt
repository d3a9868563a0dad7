use Rattle.std.proofs.Common.{◌≡◌, ◌++◌, take}
use Rattle.xg_check.specs.Typed.{arms_places}
use Rattle.xg_check.proofs.types.add_arms.Given as goal

abbrev pub invariant-loop-arm : goal.invariant-loop-arm
invariant-loop-arm l = l.next.items ≡ l.fn.next.items ++ arms_places l.types l.ways (take l.arm-index l.arms)
