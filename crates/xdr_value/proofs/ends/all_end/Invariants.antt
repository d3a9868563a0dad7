use Rattle.std.proofs.Common.{◌≡◌, drop}
use Rattle.xdr_value.specs.View.{types_of}
use Rattle.xdr_value.specs.Tests.{all_end}
use Rattle.xdr_value.proofs.ends.all_end.Given as goal

abbrev pub invariant-loop-def : goal.invariant-loop-def
invariant-loop-def l = all_end (types_of l.types) (types_of (drop l.def-index l.types)) ≡ all_end (types_of l.types)
    (types_of l.types)
