use Rattle.std.proofs.Common.{◌<◌, ◌^◌, All}
use Rattle.rx_top_tests.proofs.tests.wire.arrivals.Given as goal

abbrev pub invariant-loop-comes : goal.invariant-loop-comes
invariant-loop-comes g l = All (λ a. a.at < 2 ^ 62) l.arrivals.items
