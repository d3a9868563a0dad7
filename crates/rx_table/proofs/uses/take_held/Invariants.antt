use Rattle.std.proofs.Common.{◌≡◌, ◌+◌, ◌*◌, ◌<◌, ◌^◌, ℕ, length}
use Rattle.std.specs.Vec.{vec_capacity}
use Rattle.rx_due.specs.Book.{entries_of}
use Rattle.rx_due.specs.Cost.{AtMost}
use Rattle.rx_table.proofs.TakenLaws.{GoneThrough}
use Rattle.rx_table.proofs.uses.take_held.Given as goal

abbrev pub invariant-held : goal.invariant-held
invariant-held g l = record {
  gone : GoneThrough l.now l.seats l.fn.book l.book l.aside.items;
  capacity : vec_capacity l.aside ≡ vec_capacity l.fn.aside;
  cost : (d : ℕ) → 2 * length l.fn.book + 1 < 2 ^ (d + 1)
      → AtMost (length l.aside.items * (8 * d + 9)) l.fn.steps l.steps;
}

abbrev pub decreases-held : goal.decreases-held
decreases-held g l = entries_of l.book
