use Rattle.std.proofs.Common.{◌≡◌, drop}
use Rattle.xdr_value.specs.View.{types_of, procs_of}
use Rattle.xdr_value.specs.Tests.{procs_sound}
use Rattle.xdr_value.proofs.soundness.procs_sound.Given as goal

abbrev pub invariant-loop-one : goal.invariant-loop-one
invariant-loop-one l = procs_sound (types_of l.types) (procs_of (drop l.one-index l.procs)) ≡ procs_sound
    (types_of l.types) (procs_of l.procs)
