use Rattle.std.proofs.Common.{ℤ, w32, ◌<◌, ◌*◌, ◌∙◌, ap, length, sym, subst}
use Rattle.std.proofs.lemmas.Int.{to_z-of_z}
use Rattle.rx_model.specs.declared.names.Limits.{Limits}
use Rattle.rx_rules.specs.After.{stopped_all}
use Rattle.rx_node.specs.Mirrors.{Mirrors}
use Rattle.rx_node.specs.Node.{NodeState}
use Rattle.rx_books.proofs.Rebooked.{place_kept, rebooked_place}
use Rattle.rx_books.proofs.node.Node.reach_all.Goals as goal

pub refresh_place-requires-clause-place : goal.refresh_place-requires-clause-place
refresh_place-requires-clause-place g c =
    place_kept c.self.inside.core c.reach_all.new.self c.args.place c.reach_all.ensures.same
    (subst (λ (n : NodeState). c.args.place < length n.table.conns) (sym c.self.view_is) c.requires)

pub refresh_place-requires-clause-ranks : goal.refresh_place-requires-clause-ranks
refresh_place-requires-clause-ranks g c =
    c.self.invariant.ranks ∙ sym (ap (λ (l : Limits). 4 * l.conns) c.reach_all.ensures.same.limits)

pub refresh_place-requires-clause-silences : goal.refresh_place-requires-clause-silences
refresh_place-requires-clause-silences g c =
    c.self.invariant.silences ∙ sym (ap (λ (l : Limits). 4 * l.conns) c.reach_all.ensures.same.limits)

pub invariant_of-self : goal.invariant_of-self
invariant_of-self g c =
    rebooked_place c.self.inside.core c.reach_all.new.self c.self.inside.books c.self.invariant
    c.reach_all.ensures.same.limits
    c.refresh_place.new.self c.args.place c.reach_all.ensures.places c.refresh_place.ensures.noted
    c.refresh_place.ensures.keeps

pub returns-clause-steps : goal.returns-clause-steps
returns-clause-steps g c =
    rw (← c.self.view_is)
    (λ l x m there.
    subst (λ (z : ℤ). Mirrors g.C.Class.class_of c.reach_all.new.self (stopped_all x.connection z l))
    (to_z-of_z w32 c.args.code c.ranges.code) (c.reach_all.ensures.steps l x m there))
