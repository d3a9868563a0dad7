-- What the ends of the call keep.
use Rattle.rx_rules.specs.CallLooks.{CallLooks}
use Rattle.rx_pool.specs.Held.{Holds}
use Rattle.rx_call.specs.Standing.{StandsCall, slots_of}
use Rattle.rx_call_bench.specs.declared.call_end.CallEnd.{CallEnd}

-- an end stands for what some history says of a call, and holds its slots
pub record Stands (e : CallEnd) : Type 0 where
  pub looks : CallLooks
  pub stands : StandsCall e.slots e.call looks
  pub holds : Holds e.slots (slots_of e.call)
