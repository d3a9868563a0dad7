use Rattle.std.proofs.Common.{◌∙◌, ◌+◌, ◌-◌, ap, sym, subst, is_some, arith}
use Rattle.rx_rules.specs.CallItems.{next_sending}
use Rattle.rx_rules.specs.CallLooks.{NodeView}
use Rattle.rx_call.specs.Kept.{call_under, with_call_under}
use Rattle.rx_call.specs.Standing.{HoldsGiven, StandsCall, after_given, giving_of, is_client, view_of}
use Rattle.rx_call.proofs.CallsAt.{call_under-with_same, some_and}
use Rattle.rx_call_ends.proofs.Changing.{change_keeps, change_steps, of_end, same_slots, view_same}
use Rattle.rx_call_ends.proofs.Most.{given_same, poll_beside}
use Rattle.std.proofs.Common.{refl}
use Rattle.rx_call_ends.proofs.ends.Ends.poll.Goals as goal

pub invariant_of-self : goal.invariant_of-self
invariant_of-self g c =
    let call = c.at_mut.result.now in
    let was = c.self.invariant.looks c.args.key in
    let st = c.self.invariant.stands c.args.key call c.at_mut.ensures.call in
    let left = c.self.inside.shared - c.self.inside.common in
    let sending = next_sending (view_of call left c.args.now) was in
    let after = c.poll.ensures.stands c.self.inside.pool was left st in
    let beside =
    poll_beside c.self.inside.pool call c.poll.new.self c.args.now sending was st after c.poll.ensures.slots in
    change_keeps _ c.args.key call c.poll.new.self c.self.inside.pool c.self.inside.common c.self.invariant
    (same_slots _ c.args.key c.at_mut.result.now c.poll.new.self c.self.invariant c.at_mut.ensures.call
    c.poll.ensures.slots c.poll.ensures.same.pace beside)
    (after_given c.args.now sending was) after (omega (arith, beside))

pub returns-clause-answered : goal.returns-clause-answered
returns-clause-answered g c =
    rw (← c.self.view_is) (λ k end.
    let st = of_end _ c.args.key c.at_mut.result.now k c.self.invariant c.at_mut.ensures.call end in
    let left = c.self.inside.shared - c.self.inside.common in
    c.poll.ensures.answered c.self.inside.pool k left st.stands
    ∙ ap (λ (v : NodeView). giving_of k (next_sending v k))
    (view_same _ c.at_mut.result.now k left c.args.now st refl))

pub returns-clause-given : goal.returns-clause-given
returns-clause-given g c =
    let call = c.at_mut.result.now in
    let was = c.self.invariant.looks c.args.key in
    let st = c.self.invariant.stands c.args.key call c.at_mut.ensures.call in
    let left = c.self.inside.shared - c.self.inside.common in
    let after = c.poll.ensures.stands c.self.inside.pool was left st in
    let beside =
    poll_beside c.self.inside.pool call c.poll.new.self c.args.now (next_sending (view_of call left c.args.now) was) was
    st after c.poll.ensures.slots in
    let view : NodeView = record {
      client = is_client c.self.inside.side;
      window = c.self.inside.calls.pace.window;
      left = left;
      now = c.args.now;
    } in
    rw (← c.self.view_is) (change_steps _ c.args.key call c.poll.new.self c.self.inside.pool c.self.inside.common
    c.self.invariant
    (same_slots _ c.args.key c.at_mut.result.now c.poll.new.self c.self.invariant c.at_mut.ensures.call
    c.poll.ensures.slots c.poll.ensures.same.pace beside)
    (λ k. after_given c.args.now (next_sending view k) k) c.poll.ensures.same.client
    (λ k of. subst (λ (v : NodeView). StandsCall c.self.inside.pool c.poll.new.self
    (after_given c.args.now (next_sending v k) k))
    (view_same _ c.at_mut.result.now k left c.args.now of refl)
    (c.poll.ensures.stands c.self.inside.pool k left of.stands))
    (λ k of. sym (ap (λ n. c.self.inside.common + n) (given_same c.args.now (next_sending view k) k))))

pub returns-clause-held : goal.returns-clause-held
returns-clause-held g c =
    let call = c.at_mut.result.now in
    let was = c.self.invariant.looks c.args.key in
    let st = c.self.invariant.stands c.args.key call c.at_mut.ensures.call in
    some_and (call_under (with_call_under c.self.inside.calls c.args.key c.poll.new.self) c.args.key)
    (λ e. HoldsGiven e c.poll.result) c.poll.new.self
    (call_under-with_same c.self.inside.calls c.args.key c.poll.new.self (ap is_some c.at_mut.ensures.call))
    (c.poll.ensures.held c.self.inside.pool was st)
