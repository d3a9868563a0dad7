use Rattle.std.proofs.Common.{◌-◌, arith}
use Rattle.rx_rules.specs.CallLooks.{after_shut}
use Rattle.rx_call_ends.proofs.Changing.{counted_fits, counted_keeps, counted_steps, holds_of, spare_of}
use Rattle.rx_call_ends.proofs.Most.{shut_free, shut_most, slot_of}
use Rattle.rx_call_ends.proofs.ends.Ends.shut_counted.Goals as goal

pub shut-requires-clause-holds : goal.shut-requires-clause-holds
shut-requires-clause-holds g c = holds_of _ c.args.key _ c.self.invariant c.at_mut-call.ensures.call

pub shut-requires-clause-free : goal.shut-requires-clause-free
shut-requires-clause-free g c =
    let slot =
    slot_of _ c.args.key c.at_mut-call.result.now c.self.invariant c.at_mut-call.ensures.call
    c.beside-before.ensures.lead (rw (← c.self.view_is) at c.requires.unshut)
    (rw (← c.self.view_is) at c.requires.slot) in
    shut_free c.self.inside.pool c.at_mut-call.result.now (c.self.inside.shared - c.self.inside.common)
    (spare_of _ c.args.key _ c.self.invariant c.at_mut-call.ensures.call) slot

pub overflow_add-self : goal.overflow_add-self
overflow_add-self g c =
    let call = c.at_mut-call.result.now in
    let was = c.self.invariant.looks c.args.key in
    let st = c.self.invariant.stands c.args.key call c.at_mut-call.ensures.call in
    let slot =
    slot_of _ c.args.key c.at_mut-call.result.now c.self.invariant c.at_mut-call.ensures.call
    c.beside-before.ensures.lead (rw (← c.self.view_is) at c.requires.unshut)
    (rw (← c.self.view_is) at c.requires.slot) in
    let most = shut_most c.self.inside.pool call was st slot in
    let fits =
    counted_fits _ c.args.key c.at_mut-call.result.now c.shut.new.self c.shut.new.pool c.beside-before.result
    c.beside.result c.self.invariant
    c.at_mut-call.ensures.call c.shut.ensures.keeps c.shut.ensures.same c.beside-before.ensures.value
    c.beside.ensures.value c.beside-before.ensures.answered c.beside.ensures.answered
    (after_shut was) (c.shut.ensures.stands was st) (omega (arith, most)) in
    omega (arith, fits)

pub invariant_of-self : goal.invariant_of-self
invariant_of-self g c =
    let call = c.at_mut-call.result.now in
    let was = c.self.invariant.looks c.args.key in
    let st = c.self.invariant.stands c.args.key call c.at_mut-call.ensures.call in
    let slot =
    slot_of _ c.args.key c.at_mut-call.result.now c.self.invariant c.at_mut-call.ensures.call
    c.beside-before.ensures.lead (rw (← c.self.view_is) at c.requires.unshut)
    (rw (← c.self.view_is) at c.requires.slot) in
    let most = shut_most c.self.inside.pool call was st slot in
    counted_keeps _ c.args.key c.at_mut-call.result.now c.shut.new.self c.shut.new.pool c.beside-before.result
    c.beside.result c.self.invariant
    c.at_mut-call.ensures.call c.shut.ensures.keeps c.shut.ensures.same c.beside-before.ensures.value
    c.beside.ensures.value c.beside-before.ensures.answered c.beside.ensures.answered
    (after_shut was) (c.shut.ensures.stands was st) (omega (arith, most))

pub returns-clause-steps : goal.returns-clause-steps
returns-clause-steps g c =
    rw (← c.self.view_is)
    (counted_steps _ c.args.key c.at_mut-call.result.now c.shut.new.self c.shut.new.pool c.beside-before.result
    c.beside.result c.self.invariant
    c.at_mut-call.ensures.call c.shut.ensures.keeps c.shut.ensures.same c.beside-before.ensures.value
    c.beside.ensures.value c.beside-before.ensures.answered c.beside.ensures.answered
    _
    (λ k of. c.shut.ensures.stands k of.stands))
