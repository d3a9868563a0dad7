use Rattle.std.proofs.Common.{None, take}
use Rattle.rx_plan.specs.Network.{delivers}
use Rattle.rx_plan.specs.Parts.{each}
use Rattle.rx_stage.specs.Shown.{PlaysNodes}
use Rattle.rx_stage.specs.Tells.{told}
use Rattle.rx_stage.proofs.network_lines.deliver_all.Given as goal

abbrev pub invariant-loop-datagram : goal.invariant-loop-datagram
invariant-loop-datagram g l =
    PlaysNodes (each delivers (take l.datagram-index l.packets)) l.fn.nodes l.nodes None
    (told (g.J.Journal.told l.fn.book) (g.O.Sink.told l.fn.out) (g.O.Sink.faults l.fn.out))
    (told (g.J.Journal.told l.book) (g.O.Sink.told l.out) (g.O.Sink.faults l.out))
