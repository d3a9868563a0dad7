use Rattle.std.proofs.Common.{ℕ, Option, ap, refl, sym, subst, arith}
use Rattle.std.specs.Prelude.{IsNone}
use Rattle.rx_model.specs.declared.names.Limits.{Limits}
use Rattle.rx_node.proofs.Steps.IdleSteps.{none_idle}
use Rattle.rx_server.proofs.Entering.{no_place}
use Rattle.rx_server.proofs.server.Server.enter.Goals as goal

pub returns-in_err-place-clause-none : goal.returns-in_err-place-clause-none
returns-in_err-place-clause-none g c =
    let limits = ap (λ (k : Limits). k.conns) c.limits.ensures in
    rw (← c.self.view_is)
    (λ l serves none. no_place g.C.Class.class_of _ l serves
    (omega (arith, c.if-conns-limits.false, c.conns.ensures.count, limits))
    (none_idle g.C.Class.class_of _ l serves.mirrors
    (c.idle.ensures.none (subst (λ (o : Option ℕ). IsNone o) (sym c.in_err-place.was) refl))))

pub returns-in_err-place-clause-stays : goal.returns-in_err-place-clause-stays
returns-in_err-place-clause-stays g c = λ none. rw c.idle.ensures.same c.self.view_is

pub invariant_of-self : goal.invariant_of-self
invariant_of-self g c = rw c.idle.ensures.same c.self.invariant
