use Rattle.std.proofs.Common.{◌≡◌, None, drop, length}
use Rattle.rx_plan.specs.Network.{below}
use Rattle.rx_plan.specs.Parts.{each}
use Rattle.rx_stage.specs.RoundsPlayed.{PlaysGiven}
use Rattle.rx_plan.specs.Rounds.{polls_out}
use Rattle.rx_stage.specs.Shown.{script_of}
use Rattle.rx_stage.specs.Tells.{told}
use Rattle.rx_stage.proofs.world.World.poll_all.Given as goal

-- the clients so far were polled
abbrev pub invariant-loop-node : goal.invariant-loop-node
invariant-loop-node g l = record {
  plays : PlaysGiven (each polls_out (drop 1 (below l.node))) l.fn.self l.fn.given.items l.self l.given.items None
      (told (g.J.Journal.told l.fn.book) (g.O.Sink.told l.fn.out) (g.O.Sink.faults l.fn.out))
      (told (g.J.Journal.told l.book) (g.O.Sink.told l.out) (g.O.Sink.faults l.out));
  script : script_of l.self ≡ script_of l.fn.self;
  clients : length l.self.nodes.clients ≡ length l.fn.self.nodes.clients;
}
