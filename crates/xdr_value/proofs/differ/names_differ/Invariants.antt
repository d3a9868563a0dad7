use Rattle.std.proofs.Common.{◌≡◌, drop, map}
use Rattle.std.specs.Str.{bytes_eq}
use Rattle.xdr_value.specs.Tests.{differ}
use Rattle.xdr_value.proofs.differ.names_differ.Given as goal

abbrev pub invariant-loop-i : goal.invariant-loop-i
invariant-loop-i g l = differ bytes_eq (map g.T.Named.name_of (drop l.i l.items)) ≡ differ bytes_eq
    (map g.T.Named.name_of l.items)
