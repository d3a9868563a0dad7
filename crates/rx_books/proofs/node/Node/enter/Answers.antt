use Rattle.std.proofs.Common.{ℕ, ◌*◌, ◌∙◌, ap, arith, sym, subst}
use Rattle.rx_model.specs.declared.names.Limits.{Limits}
use Rattle.rx_node.specs.Moments.{PlacesSame}
use Rattle.rx_books.proofs.Rebooked.{rebooked_place}
use Rattle.rx_books.proofs.node.Node.enter.Goals as goal

pub refresh_place-requires-clause-place : goal.refresh_place-requires-clause-place
refresh_place-requires-clause-place g c =
    omega (arith, c.enter-answer.ensures.place, c.enter-answer.ensures.conns)

pub refresh_place-requires-clause-ranks : goal.refresh_place-requires-clause-ranks
refresh_place-requires-clause-ranks g c =
    c.self.invariant.ranks ∙ sym (ap (λ (l : Limits). 4 * l.conns) c.enter-answer.ensures.setup.limits)

pub refresh_place-requires-clause-silences : goal.refresh_place-requires-clause-silences
refresh_place-requires-clause-silences g c =
    c.self.invariant.silences ∙ sym (ap (λ (l : Limits). 4 * l.conns) c.enter-answer.ensures.setup.limits)

pub invariant_of-self : goal.invariant_of-self
invariant_of-self g c =
    rebooked_place c.self.inside.core c.enter-answer.new.self c.self.inside.books c.self.invariant
    c.enter-answer.ensures.setup.limits c.refresh_place.new.self c.enter-answer.result
    (subst (λ (p : ℕ). PlacesSame c.self.inside.core c.enter-answer.new.self p)
    (sym c.enter-answer.ensures.place) c.enter-answer.ensures.places)
    c.refresh_place.ensures.noted c.refresh_place.ensures.keeps

pub returns-clause-steps : goal.returns-clause-steps
returns-clause-steps g c = rw (← c.self.view_is) c.enter-answer.ensures.steps
