use Rattle.std.proofs.Common.{◌≡◌, drop}
use Rattle.xdr_value.specs.View.{values_of}
use Rattle.rx_script.specs.Same.{same_values}
use Rattle.rx_script.proofs.same.+same.Given as goal

abbrev pub invariant-same_values-loop-i : goal.invariant-same_values-loop-i
invariant-same_values-loop-i l =
    same_values (values_of (drop l.i l.items.items)) (values_of (drop l.i l.others.items))
    ≡ same_values (values_of l.items.items) (values_of l.others.items)
