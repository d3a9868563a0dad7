use Rattle.std.proofs.Common.{◌≡◌, take}
use Rattle.xg_check.specs.Constants.{constant_names}
use Rattle.xg_check.specs.Views.{constants_of}
use Rattle.xg_check.proofs.constants.names.Given as goal

abbrev pub invariant-loop-constant : goal.invariant-loop-constant
invariant-loop-constant l = l.names ≡ constant_names (constants_of (take l.constant-index l.list))
