use Rattle.std.proofs.Common.{◌∙◌, ap, refl}
use Rattle.rx_jumbo.specs.Parts.{parts_of}
use Rattle.rx_drive.specs.Ran.{stop_of}
use Rattle.rx_wire_loop.proofs.Giving.{empties_given, empties_none, keeps_none}
use Rattle.rx_wire_loop.proofs.ports.give_held.Goals as goal

pub returns-in-Some-clause-empties : goal.returns-in-Some-clause-empties
returns-in-Some-clause-empties g c =
    empties_given c.args.joiner.now c.out.new.self c.in-Some.to c.front.result.now _ _ (stop_of c.give.result)
    c.in-Some.ensures.host (ap parts_of c.front.ensures ∙ c.in-Some.ensures.parts)
    (λ none. absurd (cc (c.in-Some.ensures.none.1 none))) c.in-Some.ensures.emptied c.requires.within
    c.give.ensures.gives

pub returns-in-Some-clause-kept : goal.returns-in-Some-clause-kept
returns-in-Some-clause-kept g c =
    keeps_none c.args.joiner.now c.out.new.self c.in-Some.ensures.emptied c.requires.within

pub returns-in-None-clause-empties : goal.returns-in-None-clause-empties
returns-in-None-clause-empties g c =
    empties_none c.args.joiner.now c.out.new.self _ (c.in-None.ensures.none.0 refl) c.in-None.ensures.emptied

pub returns-in-None-clause-kept : goal.returns-in-None-clause-kept
returns-in-None-clause-kept g c =
    keeps_none c.args.joiner.now c.out.new.self c.in-None.ensures.emptied c.requires.within
