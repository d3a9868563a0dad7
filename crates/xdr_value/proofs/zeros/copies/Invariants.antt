use Rattle.std.proofs.Common.{◌≡◌}
use Rattle.xdr_value.specs.View.{value_of, values_of}
use Rattle.xdr_value.specs.Zero.{copies}
use Rattle.xdr_value.proofs.zeros.copies.Given as goal

abbrev pub invariant-loop : goal.invariant-loop
invariant-loop l = values_of l.items.items ≡ copies l.counter (value_of l.value)
