use Rattle.std.proofs.Common.{◌≡◌, replicate}
use Rattle.xdr_value.proofs.zeros.zero_bytes.Given as goal

abbrev pub invariant-loop : goal.invariant-loop
invariant-loop l = l.bytes.items ≡ replicate l.counter 0
