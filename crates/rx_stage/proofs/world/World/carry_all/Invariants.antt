use Rattle.std.proofs.Common.{◌≡◌, ◌++◌, None}
use Rattle.rx_plan.specs.Lossy.{comes, drawn, fated, gathered, stays}
use Rattle.rx_plan.specs.Tallies.{tallied}
use Rattle.rx_plan.specs.Network.{delivers}
use Rattle.rx_plan.specs.Parts.{each}
use Rattle.rx_stage.specs.Shown.{Plays, script_of}
use Rattle.rx_stage.specs.Tells.{told}
use Rattle.rx_stage.proofs.world.World.carry_all.Given as goal

-- what was yielded has met its fates
abbrev pub invariant-loop-datagram : goal.invariant-loop-datagram
invariant-loop-datagram g l = record {
  plays : Plays (each delivers (gathered comes (fated l.fn.network.words l.yielded))) l.fn.self l.self None
      (told (g.J.Journal.told l.fn.book) (g.O.Sink.told l.fn.out) (g.O.Sink.faults l.fn.out))
      (told (g.J.Journal.told l.book) (g.O.Sink.told l.out) (g.O.Sink.faults l.out));
  held : l.network.held.items ≡ l.fn.network.held.items ++ gathered stays (fated l.fn.network.words l.yielded);
  words : l.network.words ≡ drawn l.fn.network.words l.yielded;
  tally : l.network.tally ≡ tallied (fated l.fn.network.words l.yielded) l.fn.network.tally;
  script : script_of l.self ≡ script_of l.fn.self;
}
