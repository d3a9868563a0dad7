use Rattle.rx_call_bench.specs.Standing.{Stands}
use Rattle.rx_call_bench.proofs.moving.hear.Given as goal

abbrev pub invariant-loop : goal.invariant-loop
invariant-loop l = record { server : Stands l.server; client : Stands l.client }
