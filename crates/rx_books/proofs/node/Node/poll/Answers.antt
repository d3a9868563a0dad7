use Rattle.std.proofs.Common.{◌≡◌, ◌∙◌, ap, arith, length, refl, subst, sym, take}
use Rattle.rx_rules.specs.Records.{silenced}
use Rattle.rx_node.specs.Mirrors.{Mirrors, StepsNode}
use Rattle.rx_node.specs.Node.{KeepsNode, NodeState}
use Rattle.rx_books.proofs.Costs.{kept_conns, noted_cost, poll_cost}
use Rattle.rx_books.proofs.Polled.{item_dimmed, item_polled, later_polled, nothing_dimmed, nothing_polled, stray_polled}
use Rattle.rx_books.proofs.Rebooked.{booked_strays, rebooked}
use Rattle.rx_books.proofs.node.Node.poll.Goals as goal

pub returns-in-Some-clause-answered : goal.returns-in-Some-clause-answered
returns-in-Some-clause-answered g c =
    let class = g.C.Class.class_of in
    let old = c.args.self.now in
    let n = c.end_silent.new.core in
    let kept = subst (λ (o : NodeState). KeepsNode o n) c.self.view_is c.end_silent.ensures.same in
    let steps = subst (λ (o : NodeState). StepsNode class o n silenced) c.self.view_is c.end_silent.ensures.silenced in
    λ h stands. stray_polled class old n c.give_stray.new.self c.limits-limits.ensures.fits kept steps
    c.give_stray.ensures.updates h stands
    c.in-Some.given.0 (take c.in-Some.given.1 c.give_stray.new.to) c.in-Some.ensures.host c.in-Some.ensures.written

pub returns-in-Some-clause-dimmed : goal.returns-in-Some-clause-dimmed
returns-in-Some-clause-dimmed g c =
    let class = g.C.Class.class_of in
    let old = c.args.self.now in
    let n = c.end_silent.new.core in
    let kept = subst (λ (o : NodeState). KeepsNode o n) c.self.view_is c.end_silent.ensures.same in
    let steps = subst (λ (o : NodeState). StepsNode class o n silenced) c.self.view_is c.end_silent.ensures.silenced in
    λ l m. nothing_dimmed class old n c.give_stray.new.self c.limits-limits.ensures.fits kept steps
    c.give_stray.ensures.updates l m

pub returns-in_err-due-clause-answered : goal.returns-in_err-due-clause-answered
returns-in_err-due-clause-answered g c =
    let class = g.C.Class.class_of in
    let old = c.args.self.now in
    let n = c.end_silent.new.core in
    let kept = subst (λ (o : NodeState). KeepsNode o n) c.self.view_is c.end_silent.ensures.same in
    let steps = subst (λ (o : NodeState). StepsNode class o n silenced) c.self.view_is c.end_silent.ensures.silenced in
    rw c.from_residual.ensures
    (λ h stands. nothing_polled class old n c.give_stray.new.self c.limits-limits.ensures.fits kept steps
    c.give_stray.ensures.updates h stands
    (c.in_default.ensures.none refl) c.in_err-due.ensures.least)

pub returns-in_err-due-clause-dimmed : goal.returns-in_err-due-clause-dimmed
returns-in_err-due-clause-dimmed g c =
    let class = g.C.Class.class_of in
    let old = c.args.self.now in
    let n = c.end_silent.new.core in
    let kept = subst (λ (o : NodeState). KeepsNode o n) c.self.view_is c.end_silent.ensures.same in
    let steps = subst (λ (o : NodeState). StepsNode class o n silenced) c.self.view_is c.end_silent.ensures.silenced in
    λ l m. nothing_dimmed class old n c.give_stray.new.self c.limits-limits.ensures.fits kept steps
    c.give_stray.ensures.updates l m

pub returns-then-due-moment-clause-answered : goal.returns-then-due-moment-clause-answered
returns-then-due-moment-clause-answered g c =
    let class = g.C.Class.class_of in
    let old = c.args.self.now in
    let n = c.end_silent.new.core in
    let kept = subst (λ (o : NodeState). KeepsNode o n) c.self.view_is c.end_silent.ensures.same in
    let steps = subst (λ (o : NodeState). StepsNode class o n silenced) c.self.view_is c.end_silent.ensures.silenced in
    λ h stands. later_polled class old n c.give_stray.new.self c.limits-limits.ensures.fits kept steps
    c.give_stray.ensures.updates h stands
    (c.in_default.ensures.none refl) c.in_ok-due.due c.in_ok-due.ensures.least
    (let now = c.moment.ensures in let late = c.if-due-moment.true in omega (arith, now, late))

pub returns-then-due-moment-clause-dimmed : goal.returns-then-due-moment-clause-dimmed
returns-then-due-moment-clause-dimmed g c =
    let class = g.C.Class.class_of in
    let old = c.args.self.now in
    let n = c.end_silent.new.core in
    let kept = subst (λ (o : NodeState). KeepsNode o n) c.self.view_is c.end_silent.ensures.same in
    let steps = subst (λ (o : NodeState). StepsNode class o n silenced) c.self.view_is c.end_silent.ensures.silenced in
    λ l m. nothing_dimmed class old n c.give_stray.new.self c.limits-limits.ensures.fits kept steps
    c.give_stray.ensures.updates l m

pub returns-clause-answered : goal.returns-clause-answered
returns-clause-answered g c =
    let class = g.C.Class.class_of in
    let old = c.args.self.now in
    let n = c.end_silent.new.core in
    let kept = subst (λ (o : NodeState). KeepsNode o n) c.self.view_is c.end_silent.ensures.same in
    let steps = subst (λ (o : NodeState). StepsNode class o n silenced) c.self.view_is c.end_silent.ensures.silenced in
    λ h stands. item_polled class old n c.give_stray.new.self c.limits-limits.ensures.fits kept steps
    c.give_stray.ensures.updates h stands
    (c.in_default.ensures.none refl) c.in_ok-due.due c.in_ok-due.ensures.least
    (let now = c.moment.ensures in let low = c.if-due-moment.false in omega (arith, now, low))
    c.give-given.new.self c.give-given.ensures.same c.give-given.result.0
    (take c.give-given.result.1 c.give-given.new.to) c.give-given.ensures.gives

pub returns-clause-dimmed : goal.returns-clause-dimmed
returns-clause-dimmed g c =
    let class = g.C.Class.class_of in
    let old = c.args.self.now in
    let n = c.end_silent.new.core in
    let kept = subst (λ (o : NodeState). KeepsNode o n) c.self.view_is c.end_silent.ensures.same in
    let steps = subst (λ (o : NodeState). StepsNode class o n silenced) c.self.view_is c.end_silent.ensures.silenced in
    λ l m. item_dimmed class old n c.give_stray.new.self c.limits-limits.ensures.fits kept steps
    c.give_stray.ensures.updates l m
    c.in_ok-due.due c.in_ok-due.ensures.least c.give-given.new.self c.give-given.result.0
    (take c.give-given.result.1 c.give-given.new.to) c.give-given.ensures.gives

pub invariant_of-self-3 : goal.invariant_of-self-3
invariant_of-self-3 g c =
    rebooked c.give_stray.new.self c.give-given.new.self c.end_silent.new.books
    (booked_strays c.end_silent.new.core c.give_stray.new.self _ c.end_silent.new.books c.give_stray.ensures.updates
    c.end_silent.ensures.booked)
    c.give-given.ensures.same.limits c.refresh.new.self c.in_ok-due.due.key c.give-given.ensures.others
    c.refresh.ensures.noted c.refresh.ensures.keeps

pub returns-in-Some-clause-steps : goal.returns-in-Some-clause-steps
returns-in-Some-clause-steps g c =
    let class = g.C.Class.class_of in
    λ l m. poll_cost l c.args.steps.now c.end_silent.new.steps c.end_silent.new.steps
    (λ d power. c.end_silent.ensures.steps l d (subst (λ (o : NodeState). Mirrors class o l) (sym c.self.view_is) m)
    power)
    (λ d power. record { grows = omega arith; most = omega arith })

pub returns-in_err-due-clause-steps : goal.returns-in_err-due-clause-steps
returns-in_err-due-clause-steps g c =
    let class = g.C.Class.class_of in
    λ l m. poll_cost l c.args.steps.now c.end_silent.new.steps c.least_due.new.steps
    (λ d power. c.end_silent.ensures.steps l d (subst (λ (o : NodeState). Mirrors class o l) (sym c.self.view_is) m)
    power)
    (let least = c.in_err-due.ensures.steps in
    λ d power. record { grows = omega (arith, least.grows); most = omega (arith, least.most) })

pub returns-then-due-moment-clause-steps : goal.returns-then-due-moment-clause-steps
returns-then-due-moment-clause-steps g c =
    let class = g.C.Class.class_of in
    λ l m. poll_cost l c.args.steps.now c.end_silent.new.steps c.least_due.new.steps
    (λ d power. c.end_silent.ensures.steps l d (subst (λ (o : NodeState). Mirrors class o l) (sym c.self.view_is) m)
    power)
    (let least = c.in_ok-due.ensures.steps in
    λ d power. record { grows = omega (arith, least.grows); most = omega (arith, least.most) })

pub returns-clause-steps : goal.returns-clause-steps
returns-clause-steps g c =
    let class = g.C.Class.class_of in
    λ l m. poll_cost l c.args.steps.now c.end_silent.new.steps c.refresh.new.steps
    (λ d power. c.end_silent.ensures.steps l d (subst (λ (o : NodeState). Mirrors class o l) (sym c.self.view_is) m)
    power)
    (let n = c.give_stray.new.self in
    let z = c.give-given.new.self in
    let books = c.end_silent.new.books in
    let booked = booked_strays c.end_silent.new.core n _ books c.give_stray.ensures.updates
    c.end_silent.ensures.booked in
    let conns : length n.table.conns ≡ length l.conns = ap (λ (o : NodeState). length o.table.conns)
    c.give_stray.ensures.updates
    ∙ kept_conns c.self.inside.core c.end_silent.new.core c.end_silent.ensures.same
    ∙ ap (λ (o : NodeState). length o.table.conns) c.self.view_is ∙ m.conns.conns in
    let notes = noted_cost n z books c.refresh.new.self (length l.conns) conns c.give-given.ensures.same booked
    (rebooked n z books booked c.give-given.ensures.same.limits c.refresh.new.self c.in_ok-due.due.key
    c.give-given.ensures.others c.refresh.ensures.noted c.refresh.ensures.keeps)
    c.give-given.new.steps c.refresh.new.steps c.refresh.ensures.steps in
    let least = c.in_ok-due.ensures.steps in
    λ d power. (
    let gives = c.give-given.ensures.steps_taken d (omega (arith, conns, power)) in
    let all = notes d power in
    record {
      grows = omega (arith, least.grows, gives.grows, all.grows);
      most = omega (arith, least.most, gives.most, all.most);
    }))
