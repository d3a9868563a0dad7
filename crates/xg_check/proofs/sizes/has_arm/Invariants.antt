use Rattle.std.proofs.Common.{◌≡◌, drop}
use Rattle.xg_check.specs.Judged.{has_arm}
use Rattle.xg_check.proofs.sizes.has_arm.Given as goal

abbrev pub invariant-loop-arm : goal.invariant-loop-arm
invariant-loop-arm l = has_arm (drop l.arm-index l.arms) ≡ has_arm l.arms
