use Rattle.std.proofs.Common.{◌≡◌, ◌-◌, ◌∙◌, sym, subst, arith, take, false}
use Rattle.rx_rules.specs.CallLooks.{after_write}
use Rattle.rx_call.specs.Standing.{EndOfCall, HasSpare}
use Rattle.rx_call.proofs.CallsAt.{of_some_and}
use Rattle.rx_call_ends.proofs.Changing.{counted_fits, counted_keeps, counted_steps, holds_of, spare_of}
use Rattle.rx_call_ends.proofs.Most.{write_most}
use Rattle.rx_call_ends.proofs.ends.Ends.write_counted.Goals as goal

pub write-count-requires-clause-holds : goal.write-count-requires-clause-holds
write-count-requires-clause-holds g c = holds_of _ c.args.key _ c.self.invariant c.at_mut-call.ensures.call

pub write-count-requires-clause-spare : goal.write-count-requires-clause-spare
write-count-requires-clause-spare g c =
    let left : c.left-left.result ≡ c.self.inside.shared - c.self.inside.common = (
    rw (← c.self.view_is) at c.left-left.ensures) in
    subst (λ n. HasSpare c.self.inside.pool c.at_mut-call.result.now n) (sym left)
    (spare_of _ c.args.key _ c.self.invariant c.at_mut-call.ensures.call)

pub overflow_add-self : goal.overflow_add-self
overflow_add-self g c =
    let call = c.at_mut-call.result.now in
    let was = c.self.invariant.looks c.args.key in
    let st = c.self.invariant.stands c.args.key call c.at_mut-call.ensures.call in
    let left : c.left-left.result ≡ c.self.inside.shared - c.self.inside.common = (
    rw (← c.self.view_is) at c.left-left.ensures) in
    let unshut = (rw (← c.self.view_is) at c.requires.unshut) in
    let open_ = of_some_and _ (λ (e : EndOfCall). e.sent.shut ≡ false) call c.at_mut-call.ensures.call unshut in
    let most =
    write_most call.pace.window c.left-left.result c.write-count.result c.args.bytes.now was (sym st.sent.shut ∙ open_)
    (c.write-count.ensures.answered was st) in
    let fits =
    counted_fits _ c.args.key c.at_mut-call.result.now c.write-count.new.self c.write-count.new.pool
    c.beside-before.result
    c.beside.result c.self.invariant
    c.at_mut-call.ensures.call c.write-count.ensures.keeps c.write-count.ensures.same c.beside-before.ensures.value
    c.beside.ensures.value c.beside-before.ensures.answered c.beside.ensures.answered
    (after_write (take c.write-count.result c.args.bytes.now) was) (c.write-count.ensures.stands was st)
    (omega (arith, most, left)) in
    omega (arith, fits)

pub invariant_of-self : goal.invariant_of-self
invariant_of-self g c =
    let call = c.at_mut-call.result.now in
    let was = c.self.invariant.looks c.args.key in
    let st = c.self.invariant.stands c.args.key call c.at_mut-call.ensures.call in
    let left : c.left-left.result ≡ c.self.inside.shared - c.self.inside.common = (
    rw (← c.self.view_is) at c.left-left.ensures) in
    let unshut = (rw (← c.self.view_is) at c.requires.unshut) in
    let open_ = of_some_and _ (λ (e : EndOfCall). e.sent.shut ≡ false) call c.at_mut-call.ensures.call unshut in
    let most =
    write_most call.pace.window c.left-left.result c.write-count.result c.args.bytes.now was (sym st.sent.shut ∙ open_)
    (c.write-count.ensures.answered was st) in
    counted_keeps _ c.args.key c.at_mut-call.result.now c.write-count.new.self c.write-count.new.pool
    c.beside-before.result
    c.beside.result c.self.invariant
    c.at_mut-call.ensures.call c.write-count.ensures.keeps c.write-count.ensures.same c.beside-before.ensures.value
    c.beside.ensures.value c.beside-before.ensures.answered c.beside.ensures.answered
    (after_write (take c.write-count.result c.args.bytes.now) was) (c.write-count.ensures.stands was st)
    (omega (arith, most, left))

pub returns-clause-steps : goal.returns-clause-steps
returns-clause-steps g c =
    rw (← c.self.view_is)
    (counted_steps _ c.args.key c.at_mut-call.result.now c.write-count.new.self c.write-count.new.pool
    c.beside-before.result
    c.beside.result c.self.invariant
    c.at_mut-call.ensures.call c.write-count.ensures.keeps c.write-count.ensures.same c.beside-before.ensures.value
    c.beside.ensures.value c.beside-before.ensures.answered c.beside.ensures.answered
    _
    (λ k of. c.write-count.ensures.stands k of.stands))
