use Rattle.std.proofs.Common.{◌≡◌, ◌-◌, sym, subst, arith}
use Rattle.rx_packet.specs.Seen.{message_of}
use Rattle.rx_rules.specs.CallLooks.{NodeView, after_taken}
use Rattle.rx_call.specs.Standing.{HasSpare, StandsCall, view_of}
use Rattle.rx_call_ends.proofs.Changing.{counted_fits, counted_keeps, counted_steps, holds_of, spare_of, view_same}
use Rattle.rx_call_ends.proofs.Most.{taken_most}
use Rattle.rx_call_ends.proofs.ends.Ends.take_counted.Goals as goal

pub take-took-requires-clause-holds : goal.take-took-requires-clause-holds
take-took-requires-clause-holds g c = holds_of _ c.args.key _ c.self.invariant c.at_mut-call.ensures.call

pub take-took-requires-clause-spare : goal.take-took-requires-clause-spare
take-took-requires-clause-spare g c =
    let left : c.left-left.result ≡ c.self.inside.shared - c.self.inside.common = (
    rw (← c.self.view_is) at c.left-left.ensures) in
    subst (λ n. HasSpare c.self.inside.pool c.at_mut-call.result.now n) (sym left)
    (spare_of _ c.args.key _ c.self.invariant c.at_mut-call.ensures.call)

pub overflow_add-self : goal.overflow_add-self
overflow_add-self g c =
    let call = c.at_mut-call.result.now in
    let was = c.self.invariant.looks c.args.key in
    let st = c.self.invariant.stands c.args.key call c.at_mut-call.ensures.call in
    let left : c.left-left.result ≡ c.self.inside.shared - c.self.inside.common = (
    rw (← c.self.view_is) at c.left-left.ensures) in
    let m = message_of c.args.head.now c.args.body.now in
    let v = view_of call c.left-left.result c.args.now in
    let most = taken_most v c.take-took.result m was (c.take-took.ensures.answered was st) in
    let fits =
    counted_fits _ c.args.key c.at_mut-call.result.now c.take-took.new.self c.take-took.new.pool c.beside-before.result
    c.beside.result c.self.invariant
    c.at_mut-call.ensures.call c.take-took.ensures.keeps c.take-took.ensures.same c.beside-before.ensures.value
    c.beside.ensures.value c.beside-before.ensures.answered c.beside.ensures.answered
    (after_taken v c.take-took.result m was) (c.take-took.ensures.stands was st) (omega (arith, most, left)) in
    omega (arith, fits)

pub invariant_of-self : goal.invariant_of-self
invariant_of-self g c =
    let call = c.at_mut-call.result.now in
    let was = c.self.invariant.looks c.args.key in
    let st = c.self.invariant.stands c.args.key call c.at_mut-call.ensures.call in
    let left : c.left-left.result ≡ c.self.inside.shared - c.self.inside.common = (
    rw (← c.self.view_is) at c.left-left.ensures) in
    let m = message_of c.args.head.now c.args.body.now in
    let v = view_of call c.left-left.result c.args.now in
    let most = taken_most v c.take-took.result m was (c.take-took.ensures.answered was st) in
    counted_keeps _ c.args.key c.at_mut-call.result.now c.take-took.new.self c.take-took.new.pool c.beside-before.result
    c.beside.result c.self.invariant
    c.at_mut-call.ensures.call c.take-took.ensures.keeps c.take-took.ensures.same c.beside-before.ensures.value
    c.beside.ensures.value c.beside-before.ensures.answered c.beside.ensures.answered
    (after_taken v c.take-took.result m was) (c.take-took.ensures.stands was st) (omega (arith, most, left))

pub returns-clause-steps : goal.returns-clause-steps
returns-clause-steps g c =
    rw (← c.self.view_is)
    (counted_steps _ c.args.key c.at_mut-call.result.now c.take-took.new.self c.take-took.new.pool
    c.beside-before.result
    c.beside.result c.self.invariant
    c.at_mut-call.ensures.call c.take-took.ensures.keeps c.take-took.ensures.same c.beside-before.ensures.value
    c.beside.ensures.value c.beside-before.ensures.answered c.beside.ensures.answered
    _
    (λ k of.
    subst (λ (v : NodeView). StandsCall c.take-took.new.pool c.take-took.new.self
    (after_taken v c.take-took.result (message_of c.args.head.now c.args.body.now) k))
    (view_same _ c.at_mut-call.result.now k c.left-left.result c.args.now of
    (rw (← c.self.view_is) at c.left-left.ensures))
    (c.take-took.ensures.stands k of.stands)))
