use Rattle.std.proofs.Common.{◌*◌, ◌∙◌, ap, sym, subst, length}
use Rattle.rx_model.specs.declared.names.Limits.{Limits}
use Rattle.rx_node.specs.Mirrors.{IsKey}
use Rattle.rx_node.specs.Node.{NodeState}
use Rattle.rx_node.proofs.KeptKeys.{kept_key}
use Rattle.rx_books.proofs.Costs.{noted_cost}
use Rattle.rx_books.proofs.Rebooked.{rebooked}
use Rattle.rx_books.proofs.node.Node.accept.Goals as goal

pub refresh-requires-clause-key : goal.refresh-requires-clause-key
refresh-requires-clause-key g c =
    kept_key c.self.inside.core c.turn.new.self c.args.key c.turn.ensures.same
    (subst (λ (n : NodeState). IsKey n c.args.key) (sym c.self.view_is) c.requires)

pub refresh-requires-clause-ranks : goal.refresh-requires-clause-ranks
refresh-requires-clause-ranks g c =
    c.self.invariant.ranks ∙ sym (ap (λ (l : Limits). 4 * l.conns) c.turn.ensures.same.limits)

pub refresh-requires-clause-silences : goal.refresh-requires-clause-silences
refresh-requires-clause-silences g c =
    c.self.invariant.silences ∙ sym (ap (λ (l : Limits). 4 * l.conns) c.turn.ensures.same.limits)

pub invariant_of-self : goal.invariant_of-self
invariant_of-self g c =
    rebooked c.self.inside.core c.turn.new.self c.self.inside.books c.self.invariant c.turn.ensures.same.limits
    c.refresh.new.self c.args.key c.turn.ensures.others c.refresh.ensures.noted c.refresh.ensures.keeps

pub returns-clause-steps : goal.returns-clause-steps
returns-clause-steps g c = rw (← c.self.view_is) c.turn.ensures.steps

pub returns-clause-steps_taken : goal.returns-clause-steps_taken
returns-clause-steps_taken g c =
    let n = c.self.inside.core in
    let z = c.turn.new.self in
    let books = c.self.inside.books in
    noted_cost n z books c.refresh.new.self (length c.args.self.now.table.conns)
    (ap (λ (o : NodeState). length o.table.conns) c.self.view_is) c.turn.ensures.same c.self.invariant
    (rebooked n z books c.self.invariant c.turn.ensures.same.limits c.refresh.new.self c.args.key c.turn.ensures.others
    c.refresh.ensures.noted c.refresh.ensures.keeps)
    c.args.steps.now c.refresh.new.steps c.refresh.ensures.steps
