use Rattle.std.proofs.Common.{sym, subst, ◌∙◌}
use Rattle.rx_pool.specs.Held.{Holds}
use Rattle.rx_call.specs.Kept.{IsIdleOf}
use Rattle.rx_call.proofs.CallsAt.{slots-with_call_under, of_some_and}
use Rattle.rx_call.proofs.Undisturbed.{idle_slots}
use Rattle.rx_call_tests.proofs.tests.calls.start.Goals as goal

pub returns-clause-holds : goal.returns-clause-holds
returns-clause-holds g c =
    let call = c.at_mut-call.result.now in
    let idle = of_some_and _ (IsIdleOf c.args.calls.now.pace) call c.at_mut-call.ensures.call
    c.in_ok-key.ensures.idle in
    let same =
    slots-with_call_under c.enter.new.self c.in_ok-key.key call c.start.new.self c.at_mut-call.ensures.call
    (c.start.ensures.slots ∙ sym (idle_slots call idle.idle)) ∙ c.in_ok-key.ensures.slots in
    λ pool h. subst (λ ss. Holds pool ss) (sym same) h
