use Rattle.std.proofs.Common.{◌≡◌, length}
use Rattle.std.specs.Vec.{vec_capacity}
use Rattle.rx_table.specs.Uses.{AreWithin, with_aside}
use Rattle.rx_table.proofs.TakenLaws.{Comes}
use Rattle.rx_table.proofs.uses.put_back.Given as goal

abbrev pub invariant-aside : goal.invariant-aside
invariant-aside g l = record {
  again : with_aside l.book l.aside.items ≡ with_aside l.fn.book l.fn.aside.items;
  places : length l.book ≡ length l.fn.book;
  within : AreWithin (length l.fn.book) l.aside.items;
  capacity : vec_capacity l.aside ≡ vec_capacity l.fn.aside;
  cost : Comes (length l.fn.book) (length l.fn.aside.items) (length l.aside.items) l.fn.steps l.steps;
}

abbrev pub decreases-aside : goal.decreases-aside
decreases-aside g l = length l.aside.items
