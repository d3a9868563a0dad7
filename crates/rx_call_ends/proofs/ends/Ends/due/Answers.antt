use Rattle.std.proofs.Common.{◌∙◌, subst, sym}
use Rattle.std.specs.Prelude.{IsSomeAnd, Option}
use Rattle.rx_rules.specs.CallItems.{call_due}
use Rattle.rx_call.specs.Standing.{EndOfCall}
use Rattle.rx_call_ends.specs.Ends.{IsDueOf}
use Rattle.rx_call_ends.proofs.Changing.{of_end}
use Rattle.rx_call_ends.proofs.ends.Ends.due.Goals as goal

pub returns-clause-answered : goal.returns-clause-answered
returns-clause-answered g c =
    rw (← c.self.view_is) (λ k end.
    let st = of_end _ c.args.key _ k c.self.invariant c.at.ensures.call end in
    c.due.ensures _ k st.stands ∙ (λ i. call_due (st.client i) k))

pub returns-clause-rank : goal.returns-clause-rank
returns-clause-rank g c =
    rw (← c.self.view_is)
    (subst (λ (o : Option EndOfCall). IsSomeAnd o (λ e. IsDueOf e c.due.result)) (sym c.at.ensures.call)
    c.due.ensures)
