use Rattle.std.proofs.Common.{refl, arith}
use Rattle.rx_call_ends.proofs.Changing.{empty_keeps}
use Rattle.rx_call_ends.proofs.ends.Ends.make.Goals as goal

pub invariant_of-result : goal.invariant_of-result
invariant_of-result c =
    let calls = c.in_ok-calls.ensures in
    let free = c.in_ok-pool.ensures.count in
    empty_keeps _ calls.empty calls.slots calls.live (omega (arith, free, calls.room, c.requires.slots)) refl
