use Rattle.rx_due.proofs.Opening.{open_there, open_behind}
use Rattle.rx_due.proofs.heap.Heap.hole_for.Goals as goal

pub returns-in-None-clause-open : goal.returns-in-None-clause-open
returns-in-None-clause-open g c =
    let none = c.in-None.ensures.found in
    open_behind c.args.self.now c.args.key c.requires.heap c.requires.key none (c.requires.room none)

pub returns-in-Some-clause-open : goal.returns-in-Some-clause-open
returns-in-Some-clause-open g c =
    open_there c.args.self.now c.args.key c.in-Some.place c.requires.heap c.requires.key c.in-Some.ensures.found
