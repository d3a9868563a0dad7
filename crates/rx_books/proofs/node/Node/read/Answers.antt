use Rattle.std.proofs.Common.{◌*◌, ◌∙◌, ap, sym, subst}
use Rattle.rx_model.specs.declared.names.Limits.{Limits}
use Rattle.rx_node.specs.Mirrors.{IsActiveAt}
use Rattle.rx_node.specs.Node.{NodeState}
use Rattle.rx_node.proofs.KeptKeys.{kept_key, seat_key}
use Rattle.rx_books.proofs.Rebooked.{rebooked, rebooked_still}
use Rattle.rx_books.proofs.node.Node.read.Goals as goal

pub refresh_now-requires-clause-key : goal.refresh_now-requires-clause-key
refresh_now-requires-clause-key g c =
    let a = subst (λ (n : NodeState). IsActiveAt n c.args.key c.args.end) (sym c.self.view_is) c.requires.active in
    kept_key c.self.inside.core c.read-answer.new.self c.args.key c.read-answer.ensures.same
    (seat_key c.self.inside.core c.args.key a.seat a.there)

pub refresh_now-requires-clause-ranks : goal.refresh_now-requires-clause-ranks
refresh_now-requires-clause-ranks g c =
    c.self.invariant.ranks ∙ sym (ap (λ (l : Limits). 4 * l.conns) c.read-answer.ensures.same.limits)

pub refresh_now-requires-clause-silences : goal.refresh_now-requires-clause-silences
refresh_now-requires-clause-silences g c =
    c.self.invariant.silences ∙ sym (ap (λ (l : Limits). 4 * l.conns) c.read-answer.ensures.same.limits)

pub invariant_of-self-in-Got : goal.invariant_of-self-in-Got
invariant_of-self-in-Got g c =
    rebooked c.self.inside.core c.read-answer.new.self c.self.inside.books c.self.invariant
    c.read-answer.ensures.same.limits
    c.refresh_now.new.self c.args.key c.read-answer.ensures.others c.refresh_now.ensures.noted
    c.refresh_now.ensures.keeps

pub returns-in-Got : goal.returns-in-Got
returns-in-Got g c = record {
  answered = rw (← c.self.view_is) c.read-answer.ensures.answered;
  steps = rw (← c.self.view_is) c.read-answer.ensures.steps;
  rest = c.read-answer.ensures.rest;
  same = rw (← c.self.view_is) c.read-answer.ensures.same;
}

pub invariant_of-self : goal.invariant_of-self
invariant_of-self g c =
    rebooked_still c.self.inside.core c.read-answer.new.self c.self.inside.books c.self.invariant
    c.read-answer.ensures.same.limits c.args.key c.read-answer.ensures.others
    (c.read-answer.ensures.none c.in-NotYet.is)

pub returns-in-NotYet-clause-answered : goal.returns-in-NotYet-clause-answered
returns-in-NotYet-clause-answered g c = rw (← c.self.view_is) c.read-answer.ensures.answered

pub returns-in-NotYet-clause-steps : goal.returns-in-NotYet-clause-steps
returns-in-NotYet-clause-steps g c = rw (← c.self.view_is) c.read-answer.ensures.steps
