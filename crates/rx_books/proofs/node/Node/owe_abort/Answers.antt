use Rattle.std.proofs.Common.{◌*◌, ◌∙◌, ap, sym, subst}
use Rattle.rx_model.specs.declared.names.Limits.{Limits}
use Rattle.rx_node.specs.Mirrors.{IsKey}
use Rattle.rx_node.specs.Node.{NodeState}
use Rattle.rx_node.proofs.KeptKeys.{kept_key}
use Rattle.rx_books.proofs.Rebooked.{rebooked}
use Rattle.rx_books.proofs.node.Node.owe_abort.Goals as goal

pub refresh_now-requires-clause-key : goal.refresh_now-requires-clause-key
refresh_now-requires-clause-key g c =
    kept_key c.self.inside.core c.owe_abort.new.self c.args.key c.owe_abort.ensures.same
    (subst (λ (n : NodeState). IsKey n c.args.key) (sym c.self.view_is) c.requires)

pub refresh_now-requires-clause-ranks : goal.refresh_now-requires-clause-ranks
refresh_now-requires-clause-ranks g c =
    c.self.invariant.ranks ∙ sym (ap (λ (l : Limits). 4 * l.conns) c.owe_abort.ensures.same.limits)

pub refresh_now-requires-clause-silences : goal.refresh_now-requires-clause-silences
refresh_now-requires-clause-silences g c =
    c.self.invariant.silences ∙ sym (ap (λ (l : Limits). 4 * l.conns) c.owe_abort.ensures.same.limits)

pub invariant_of-self : goal.invariant_of-self
invariant_of-self g c =
    rebooked c.self.inside.core c.owe_abort.new.self c.self.inside.books c.self.invariant
    c.owe_abort.ensures.same.limits
    c.refresh_now.new.self c.args.key c.owe_abort.ensures.others c.refresh_now.ensures.noted
    c.refresh_now.ensures.keeps

pub returns-clause-steps : goal.returns-clause-steps
returns-clause-steps g c = rw (← c.self.view_is) c.owe_abort.ensures.steps
