-- A new joiner takes them as any.
use Rattle.rx_stage.proofs.Joining.{joiner_begun}
use Rattle.rx_stage.proofs.network_lines.can_join.Goals as goal

pub loop-packet-init : goal.loop-packet-init
loop-packet-init c =
    joiner_begun c.in_ok-joiner.joiner c.args.packets.now c.in_ok-joiner.ensures.most c.in_ok-joiner.ensures.empty
