use Rattle.std.proofs.Common.{◌≤◌}
use Rattle.rx_call_bench.specs.Standing.{Stands}
use Rattle.rx_call_bench.proofs.moving.say.Given as goal

abbrev pub invariant-loop : goal.invariant-loop
invariant-loop l = record { stands : Stands l.client; within : l.said ≤ l.bytes }
