use Rattle.std.proofs.Common.{arith}
use Rattle.rx_due.proofs.heap.Heap.has.Goals as goal

pub at-requires : goal.at-requires
at-requires g c =
    omega (
      arith,
      c.requires.heap.tied.leads_within c.args.key c.in-Some.place c.in-Some.ensures.found,
      c.requires.heap.sized.room,
    )
