use Rattle.std.proofs.Common.{◌≤◌}
use Rattle.rx_call_bench.specs.Standing.{Stands}
use Rattle.rx_call_bench.proofs.moving.moved.Given as goal

abbrev pub invariant-loop-step : goal.invariant-loop-step
invariant-loop-step l = record { client : Stands l.client; server : Stands l.server; within : l.said ≤ l.bytes }
