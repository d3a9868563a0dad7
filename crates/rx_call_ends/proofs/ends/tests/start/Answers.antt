use Rattle.std.proofs.Common.{Option, Some, None, ℕ, is_some, ap}
use Rattle.std.specs.Prelude.{IfSome}
use Rattle.rx_rules.specs.CallLooks.{CallLooks}
use Rattle.rx_call.specs.Kept.{call_under}
use Rattle.rx_call.proofs.CallsAt.{some_of}
use Rattle.rx_call_ends.specs.Ends.{EndsState, IsThere, StandsAs, StandsEnd}
use Rattle.rx_call_ends.proofs.ends.tests.start.Goals as goal

-- a key whose call stands for something is there
started_there : (o : Option ℕ) (e : EndsState) (k : CallLooks) → IfSome o (λ key. StandsEnd e key k) →
    IfSome o (λ key. IsThere e key)
started_there None e k h = h
started_there (Some key) e k h = (let x = some_of (call_under e.calls key) (λ c. StandsAs e c k) h in ap is_some x.1)

pub returns : goal.returns
returns c = started_there c.start.result _ _ c.start.ensures.stands
