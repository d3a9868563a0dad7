use Rattle.std.proofs.Common.{◌≡◌, drop}
use Rattle.rx_plan.specs.Lines.{can_join, joins_all}
use Rattle.rx_stage.proofs.network_lines.can_join.Given as goal

abbrev pub invariant-loop-packet : goal.invariant-loop-packet
invariant-loop-packet l = joins_all l.joiner (drop l.packet-index l.packets) ≡ can_join l.packets
