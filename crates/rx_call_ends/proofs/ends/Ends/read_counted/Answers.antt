use Rattle.std.proofs.Common.{arith, take}
use Rattle.rx_rules.specs.CallLooks.{after_read}
use Rattle.rx_history.proofs.Given.HeldLaws.{beside_read}
use Rattle.rx_recvwin.specs.Window.{given_count, tells_end}
use Rattle.rx_call_ends.proofs.Changing.{counted_fits, counted_keeps, counted_steps, holds_of}
use Rattle.rx_call_ends.proofs.ends.Ends.read_counted.Goals as goal

pub read-got-requires-clause-holds : goal.read-got-requires-clause-holds
read-got-requires-clause-holds g c = holds_of _ c.args.key _ c.self.invariant c.at_mut-call.ensures.call

pub overflow_add-self : goal.overflow_add-self
overflow_add-self g c =
    let call = c.at_mut-call.result.now in
    let was = c.self.invariant.looks c.args.key in
    let st = c.self.invariant.stands c.args.key call c.at_mut-call.ensures.call in
    let got = c.read-got.result in
    let bytes = take (given_count got) c.read-got.new.to in
    let most = beside_read c.args.now (tells_end got) bytes was in
    let fits =
    counted_fits _ c.args.key c.at_mut-call.result.now c.read-got.new.self c.read-got.new.pool c.beside-before.result
    c.beside.result c.self.invariant
    c.at_mut-call.ensures.call c.read-got.ensures.keeps c.read-got.ensures.same c.beside-before.ensures.value
    c.beside.ensures.value c.beside-before.ensures.answered c.beside.ensures.answered
    (after_read c.args.now (tells_end got) bytes was) (c.read-got.ensures.stands was st) (omega (arith, most)) in
    omega (arith, fits)

pub invariant_of-self : goal.invariant_of-self
invariant_of-self g c =
    let call = c.at_mut-call.result.now in
    let was = c.self.invariant.looks c.args.key in
    let st = c.self.invariant.stands c.args.key call c.at_mut-call.ensures.call in
    let got = c.read-got.result in
    let bytes = take (given_count got) c.read-got.new.to in
    let most = beside_read c.args.now (tells_end got) bytes was in
    counted_keeps _ c.args.key c.at_mut-call.result.now c.read-got.new.self c.read-got.new.pool c.beside-before.result
    c.beside.result c.self.invariant
    c.at_mut-call.ensures.call c.read-got.ensures.keeps c.read-got.ensures.same c.beside-before.ensures.value
    c.beside.ensures.value c.beside-before.ensures.answered c.beside.ensures.answered
    (after_read c.args.now (tells_end got) bytes was) (c.read-got.ensures.stands was st) (omega (arith, most))

pub returns-clause-steps : goal.returns-clause-steps
returns-clause-steps g c =
    rw (← c.self.view_is)
    (counted_steps _ c.args.key c.at_mut-call.result.now c.read-got.new.self c.read-got.new.pool c.beside-before.result
    c.beside.result c.self.invariant
    c.at_mut-call.ensures.call c.read-got.ensures.keeps c.read-got.ensures.same c.beside-before.ensures.value
    c.beside.ensures.value c.beside-before.ensures.answered c.beside.ensures.answered
    _
    (λ k of. c.read-got.ensures.stands k of.stands))
