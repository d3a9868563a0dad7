use Rattle.std.proofs.Common.{◌≡◌, drop, map}
use Rattle.std.specs.Str.{bytes_eq}
use Rattle.xdr_value.specs.Tests.{has_one}
use Rattle.xdr_value.proofs.differ.is_named.Given as goal

abbrev pub invariant-loop-item : goal.invariant-loop-item
invariant-loop-item g l = has_one bytes_eq l.name (map g.T.Named.name_of (drop l.item-index l.items)) ≡ has_one
    bytes_eq l.name (map g.T.Named.name_of l.items)
