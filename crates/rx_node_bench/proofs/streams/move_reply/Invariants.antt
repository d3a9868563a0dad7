use Rattle.std.proofs.Common.{◌≤◌}
use Rattle.rx_node_bench.proofs.streams.move_reply.Given as goal

-- no more was said than there is
abbrev pub invariant-loop : goal.invariant-loop
invariant-loop g l = l.said ≤ l.bytes
