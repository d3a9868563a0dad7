use Rattle.std.proofs.Common.{◌-◌, arith}
use Rattle.rx_call.proofs.Spare.{beside-idle}
use Rattle.rx_call_ends.proofs.Changing.{change_keeps, change_only, clears, counted_of, holds_of, idle_looks}
use Rattle.rx_call_ends.proofs.Changing.{idle_stands}
use Rattle.rx_call_ends.proofs.Changing.{of_end}
use Rattle.rx_call_ends.proofs.ends.Ends.clear.Goals as goal

pub clear-requires : goal.clear-requires
clear-requires g c = holds_of _ c.args.key _ c.self.invariant c.at_mut-call.ensures.call

pub invariant_of-self : goal.invariant_of-self
invariant_of-self g c =
    let none = beside-idle c.clear.new.self c.clear.ensures.idle in
    change_keeps _ c.args.key c.at_mut-call.result.now c.clear.new.self c.clear.new.pool
    (c.self.inside.common - c.beside.result) c.self.invariant
    (clears _ c.args.key c.at_mut-call.result.now c.clear.new.self c.clear.new.pool c.beside.result c.self.invariant
    c.at_mut-call.ensures.call c.clear.ensures.keeps c.clear.ensures.same.pace c.clear.ensures.idle
    c.beside.ensures.value)
    (idle_looks c.clear.new.self) (idle_stands c.clear.new.pool c.clear.new.self c.clear.ensures.idle)
    (omega (arith, none))

pub returns-clause-common : goal.returns-clause-common
returns-clause-common g c =
    rw (← c.self.view_is) (λ k end.
    let low = counted_of _ c.args.key c.at_mut-call.result.now c.self.invariant c.at_mut-call.ensures.call in
    let st = of_end _ c.args.key c.at_mut-call.result.now k c.self.invariant c.at_mut-call.ensures.call end in
    let was = c.beside.ensures.answered c.self.inside.pool k st.stands in
    let counts = c.beside.ensures.value in
    omega (arith, low, was, counts))

pub returns-clause-keeps : goal.returns-clause-keeps
returns-clause-keeps g c =
    rw (← c.self.view_is) (change_only _ c.args.key c.at_mut-call.result.now c.clear.new.self c.clear.new.pool
    (c.self.inside.common - c.beside.result) c.self.invariant
    (clears _ c.args.key c.at_mut-call.result.now c.clear.new.self c.clear.new.pool c.beside.result c.self.invariant
    c.at_mut-call.ensures.call c.clear.ensures.keeps c.clear.ensures.same.pace c.clear.ensures.idle
    c.beside.ensures.value))
