use Rattle.std.proofs.Common.{◌≡◌, drop}
use Rattle.xdr_value.specs.View.{types_of}
use Rattle.xdr_value.specs.Tests.{all_sound}
use Rattle.xdr_value.proofs.soundness.defs_sound.Given as goal

abbrev pub invariant-loop-def : goal.invariant-loop-def
invariant-loop-def l = all_sound (types_of l.types) (types_of (drop l.def-index l.types)) ≡ all_sound
    (types_of l.types) (types_of l.types)
