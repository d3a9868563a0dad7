use Rattle.std.proofs.Common.{rules, SFits}
use Rattle.std.proofs.lemmas.Int.{to_z-of_z}
use Rattle.std.specs.Int.{w32}
use Rattle.rx_top.proofs.wire_outcome.say_ended.Goals as goal

pub returns-in-Aborted-clause-said : goal.returns-in-Aborted-clause-said
returns-in-Aborted-clause-said g c =
    let fits : SFits w32 c.in-Aborted.code = search rules in
    rw c.in-Aborted.is (rw to_z-of_z at c.say_number.ensures.said)
