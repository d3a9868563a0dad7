use Rattle.std.proofs.Common.{◌<◌, ◌*◌, ◌∙◌, ap, arith, length, sym, subst}
use Rattle.rx_model.specs.declared.names.Limits.{Limits}
use Rattle.rx_node.specs.Node.{NodeState}
use Rattle.rx_table.specs.Records.{IsLongestIdle}
use Rattle.rx_books.proofs.Rebooked.{idle_low, rebooked_place}
use Rattle.rx_books.proofs.node.Node.replace.Goals as goal

pub refresh_place-requires-clause-place : goal.refresh_place-requires-clause-place
refresh_place-requires-clause-place g c =
    let low : c.args.place < length c.self.inside.core.table.conns =
    idle_low c.self.inside.core.table c.self.inside.core.moment c.args.place
    (subst (λ (n : NodeState). IsLongestIdle n.moment n.table c.args.place) (sym c.self.view_is) c.requires.idle) in
    omega (arith, low, c.replace.ensures.conns)

pub refresh_place-requires-clause-ranks : goal.refresh_place-requires-clause-ranks
refresh_place-requires-clause-ranks g c =
    c.self.invariant.ranks ∙ sym (ap (λ (l : Limits). 4 * l.conns) c.replace.ensures.setup.limits)

pub refresh_place-requires-clause-silences : goal.refresh_place-requires-clause-silences
refresh_place-requires-clause-silences g c =
    c.self.invariant.silences ∙ sym (ap (λ (l : Limits). 4 * l.conns) c.replace.ensures.setup.limits)

pub invariant_of-self : goal.invariant_of-self
invariant_of-self g c =
    rebooked_place c.self.inside.core c.replace.new.self c.self.inside.books c.self.invariant
    c.replace.ensures.setup.limits
    c.refresh_place.new.self c.args.place c.replace.ensures.places c.refresh_place.ensures.noted
    c.refresh_place.ensures.keeps

pub returns-clause-steps : goal.returns-clause-steps
returns-clause-steps g c = rw (← c.self.view_is) c.replace.ensures.steps
