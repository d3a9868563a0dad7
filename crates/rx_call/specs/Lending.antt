-- What the calls are once one that they lent comes back. Public clauses cite this module.
use Rattle.std.specs.Prelude.{ℕ}
use Rattle.std.specs.Borrow.{Lends, MutBor, Fml}
use Rattle.rx_call.specs.contracts.call.Call.{the_row as call_row}
use Rattle.rx_call.specs.contracts.calls.Calls.{the_row}
use Rattle.rx_call.specs.Kept.{KeptCalls, with_call_under}
use Rattle.rx_call.specs.Standing.{EndOfCall}

-- they end with what is left of the call
abbrev pub LendsCall : MutBor KeptCalls → ℕ → MutBor EndOfCall → Fml
LendsCall calls key r = Lends the_row call_row calls r (with_call_under calls.now key)
