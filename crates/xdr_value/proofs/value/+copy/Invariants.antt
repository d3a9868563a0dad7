use Rattle.std.proofs.Common.{◌≡◌, take, map}
use Rattle.xdr_value.specs.View.{value_of}
use Rattle.xdr_value.proofs.value.+copy.Given as goal

abbrev pub invariant-copy_all-loop-item : goal.invariant-copy_all-loop-item
invariant-copy_all-loop-item l = map value_of l.copies.items ≡ map value_of (take l.item-index l.item-items)
