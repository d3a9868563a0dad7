use Rattle.std.proofs.Common.{◌/◌, ◌*◌, ◌∙◌, ap, sym, subst}
use Rattle.rx_model.specs.declared.names.Limits.{Limits}
use Rattle.rx_node.specs.Mirrors.{IsActiveAt}
use Rattle.rx_node.specs.Node.{NodeState}
use Rattle.rx_node.proofs.KeptKeys.{kept_key, seat_key}
use Rattle.rx_books.proofs.Rebooked.{rebooked, rebooked_place}
use Rattle.rx_books.proofs.node.Node.take.Goals as goal

pub refresh_place-requires-clause-place : goal.refresh_place-requires-clause-place
refresh_place-requires-clause-place g c =
    let a = subst (λ (n : NodeState). IsActiveAt n c.args.key c.args.end) (sym c.self.view_is) c.requires.active in
    kept_key c.self.inside.core c.take-took.new.self c.args.key c.take-took.ensures.same
    (seat_key c.self.inside.core c.args.key a.seat a.there)

pub refresh_place-requires-clause-ranks : goal.refresh_place-requires-clause-ranks
refresh_place-requires-clause-ranks g c =
    c.self.invariant.ranks ∙ sym (ap (λ (l : Limits). 4 * l.conns) c.take-took.ensures.same.limits)

pub refresh_place-requires-clause-silences : goal.refresh_place-requires-clause-silences
refresh_place-requires-clause-silences g c =
    c.self.invariant.silences ∙ sym (ap (λ (l : Limits). 4 * l.conns) c.take-took.ensures.same.limits)

pub refresh_now-requires-clause-key : goal.refresh_now-requires-clause-key
refresh_now-requires-clause-key g c =
    let a = subst (λ (n : NodeState). IsActiveAt n c.args.key c.args.end) (sym c.self.view_is) c.requires.active in
    kept_key c.self.inside.core c.take-took.new.self c.args.key c.take-took.ensures.same
    (seat_key c.self.inside.core c.args.key a.seat a.there)

pub refresh_now-requires-clause-ranks : goal.refresh_now-requires-clause-ranks
refresh_now-requires-clause-ranks g c =
    c.self.invariant.ranks ∙ sym (ap (λ (l : Limits). 4 * l.conns) c.take-took.ensures.same.limits)

pub refresh_now-requires-clause-silences : goal.refresh_now-requires-clause-silences
refresh_now-requires-clause-silences g c =
    c.self.invariant.silences ∙ sym (ap (λ (l : Limits). 4 * l.conns) c.take-took.ensures.same.limits)

pub returns-then-is_response-clause-answered : goal.returns-then-is_response-clause-answered
returns-then-is_response-clause-answered g c = rw (← c.self.view_is) c.take-took.ensures.answered

pub returns-then-is_response-clause-steps : goal.returns-then-is_response-clause-steps
returns-then-is_response-clause-steps g c = rw (← c.self.view_is) c.take-took.ensures.steps

pub returns-else-is_response-clause-answered : goal.returns-else-is_response-clause-answered
returns-else-is_response-clause-answered g c = rw (← c.self.view_is) c.take-took.ensures.answered

pub returns-else-is_response-clause-steps : goal.returns-else-is_response-clause-steps
returns-else-is_response-clause-steps g c = rw (← c.self.view_is) c.take-took.ensures.steps

pub invariant_of-self : goal.invariant_of-self
invariant_of-self g c =
    rebooked_place c.self.inside.core c.take-took.new.self c.self.inside.books c.self.invariant
    c.take-took.ensures.same.limits c.refresh_place.new.self (c.args.key / 4) c.take-took.ensures.places
    c.refresh_place.ensures.noted c.refresh_place.ensures.keeps

pub invariant_of-self-else-is_response : goal.invariant_of-self-else-is_response
invariant_of-self-else-is_response g c =
    rebooked c.self.inside.core c.take-took.new.self c.self.inside.books c.self.invariant
    c.take-took.ensures.same.limits c.refresh_now.new.self c.args.key
    (c.take-took.ensures.others (sym c.is_response.ensures ∙ c.if-is_response.false)) c.refresh_now.ensures.noted
    c.refresh_now.ensures.keeps
