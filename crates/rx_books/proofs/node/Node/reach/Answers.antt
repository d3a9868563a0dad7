use Rattle.std.proofs.Common.{ℤ, w32, ◌*◌, ◌∙◌, ap, sym, subst}
use Rattle.std.proofs.lemmas.Int.{to_z-of_z}
use Rattle.rx_model.specs.declared.names.Limits.{Limits}
use Rattle.rx_rules.specs.Life.{after_code}
use Rattle.rx_rules.specs.Looks.{latest_name, on_life}
use Rattle.rx_node.specs.Mirrors.{IsKey, Mirrors}
use Rattle.rx_node.specs.Node.{NodeState}
use Rattle.rx_node.proofs.KeptKeys.{kept_key}
use Rattle.rx_books.proofs.Rebooked.{rebooked}
use Rattle.rx_books.proofs.node.Node.reach.Goals as goal

pub refresh_now-requires-clause-key : goal.refresh_now-requires-clause-key
refresh_now-requires-clause-key g c =
    kept_key c.self.inside.core c.reach.new.self c.args.key c.reach.ensures.same
    (subst (λ (n : NodeState). IsKey n c.args.key) (sym c.self.view_is) c.requires)

pub refresh_now-requires-clause-ranks : goal.refresh_now-requires-clause-ranks
refresh_now-requires-clause-ranks g c =
    c.self.invariant.ranks ∙ sym (ap (λ (l : Limits). 4 * l.conns) c.reach.ensures.same.limits)

pub refresh_now-requires-clause-silences : goal.refresh_now-requires-clause-silences
refresh_now-requires-clause-silences g c =
    c.self.invariant.silences ∙ sym (ap (λ (l : Limits). 4 * l.conns) c.reach.ensures.same.limits)

pub invariant_of-self : goal.invariant_of-self
invariant_of-self g c =
    rebooked c.self.inside.core c.reach.new.self c.self.inside.books c.self.invariant c.reach.ensures.same.limits
    c.refresh_now.new.self c.args.key c.reach.ensures.others c.refresh_now.ensures.noted
    c.refresh_now.ensures.keeps

pub returns-clause-steps : goal.returns-clause-steps
returns-clause-steps g c =
    rw (← c.self.view_is)
    (λ l ch m at.
    subst (λ (z : ℤ). Mirrors g.C.Class.class_of c.reach.new.self (on_life (latest_name l ch) (after_code z) l))
    (to_z-of_z w32 c.args.code c.ranges.code) (c.reach.ensures.steps l ch m at))
