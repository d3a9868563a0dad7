use Rattle.std.proofs.Common.{◌≡◌, None, length, take}
use Rattle.rx_stage.specs.Done.{KeepsDone, PlaysCallers}
use Rattle.rx_plan.specs.Parts.{each}
use Rattle.rx_stage.specs.Tells.{told}
use Rattle.rx_plan.specs.Turned.{turns_at}
use Rattle.rx_stage.proofs.invokes.turn_each.Given as goal

-- the callers at the places so far had their turns
abbrev pub invariant-loop-place : goal.invariant-loop-place
invariant-loop-place g l = record {
  plays : PlaysCallers (each turns_at (take l.place-index l.places)) l.fn.callers.items l.callers.items
      l.fn.nodes l.nodes None
      (told (g.J.Journal.told l.fn.telling.book.now) (g.O.Sink.told l.fn.telling.out.now)
      (g.O.Sink.faults l.fn.telling.out.now))
      (told (g.J.Journal.told l.telling.book.now) (g.O.Sink.told l.telling.out.now)
      (g.O.Sink.faults l.telling.out.now));
  sink : l.telling.out.ghost_name ≡ l.fn.telling.out.ghost_name;
  book : l.telling.book.ghost_name ≡ l.fn.telling.book.ghost_name;
  done : KeepsDone l.fn.callers.items l.callers.items;
  count : length l.callers.items ≡ length l.fn.callers.items;
}
