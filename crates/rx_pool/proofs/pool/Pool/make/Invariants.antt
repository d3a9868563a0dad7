use Rattle.std.proofs.Common.{◌≡◌, ◌≤◌, ℕ, length, vec_capacity}
use Rattle.std.specs.Prelude.{nat_lt}
use Rattle.rx_pool.specs.Pool.{HasNoRepeat, AllBelow, HasFullSlots, has}
use Rattle.rx_pool.proofs.pool.Pool.make.Given as goal

abbrev pub invariant-loop-number : goal.invariant-loop-number
invariant-loop-number l = record {
  slots : length l.slots.items ≡ l.number;
  count : length l.free.items ≡ l.number;
  free : (s : ℕ) → has s l.free.items ≡ nat_lt s l.number;
  apart : HasNoRepeat l.free.items;
  below : AllBelow l.number l.free.items;
  full : HasFullSlots l.slots.items;
  room : l.n ≤ vec_capacity l.free;
}
