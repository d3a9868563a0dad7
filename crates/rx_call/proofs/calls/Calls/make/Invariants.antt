use Rattle.std.proofs.Common.{◌≡◌, ◌≤◌, length, vec_capacity}
use Rattle.slab.specs.Slab.{slab_len}
use Rattle.rx_call.proofs.Making.{AllFree}
use Rattle.rx_call.proofs.calls.Calls.make.Given as goal

abbrev pub invariant-loop : goal.invariant-loop
invariant-loop l = record {
  room : l.calls ≤ l.entries.capacity;
  free_room : l.calls ≤ vec_capacity l.free;
  count : slab_len l.entries ≡ l.counter;
  free : length l.free.items ≡ l.counter;
  all : AllFree l.entries l.free.items l.pace;
}
