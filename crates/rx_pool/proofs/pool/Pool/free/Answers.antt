use Rattle.std.proofs.Common.{arith, length, ◌≤◌}
use Rattle.rx_pool.proofs.Numbers.{few}
use Rattle.rx_pool.proofs.pool.Pool.free.Goals as goal

pub overflow_cast-result : goal.overflow_cast-result
overflow_cast-result c =
    let so = c.self.invariant in
    let slots = length c.self.inside.slots.items in
    let few : length c.self.inside.free.items ≤ slots = few slots c.self.inside.free.items so.apart so.below in
    omega (arith, few, so.most, c.len.ensures, c.self.inside.free.ok.0)
