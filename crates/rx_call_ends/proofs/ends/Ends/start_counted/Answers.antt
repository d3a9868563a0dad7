use Rattle.std.proofs.Common.{ap, length, arith, refl}
use Rattle.rx_rules.specs.CallLooks.{fresh_call}
use Rattle.rx_call.specs.Kept.{IsIdleOf}
use Rattle.rx_call.specs.Standing.{is_client}
use Rattle.rx_call.proofs.CallsAt.{of_some_and}
use Rattle.rx_call_ends.proofs.Changing.{change_keeps, enters, idle_looks, start_stands, starts, turn_keeps}
use Rattle.rx_call_ends.proofs.ends.Ends.start_counted.Goals as goal

pub invariant_of-self-2 : goal.invariant_of-self-2
invariant_of-self-2 g c =
    let key = c.in_ok-key.key in
    let call = c.at_mut-call.result.now in
    let entered = c.in_ok-key.ensures in
    let is = c.at_mut-call.ensures.call in
    let idle = of_some_and _ (IsIdleOf c.self.inside.calls.pace) call is entered.idle in
    let room = entered.room refl in
    let turned =
    turn_keeps _ c.enter.new.self key (idle_looks call) c.self.invariant
    (enters _ c.enter.new.self key call entered.absent is idle entered.others entered.slots
    (omega (arith, entered.live, room, entered.others.room))) in
    let none = ap length c.start.ensures.slots in
    change_keeps _ key call c.start.new.self c.self.inside.pool c.self.inside.common turned
    (starts _ key call c.start.new.self turned is idle.idle c.start.ensures.slots c.start.ensures.pace)
    (fresh_call call.pace c.args.now) (c.start.ensures.stands c.self.inside.pool)
    (omega (arith, none))

pub returns-clause-stands : goal.returns-clause-stands
returns-clause-stands g c =
    let call = c.at_mut-call.result.now in
    let entered = c.in_ok-key.ensures in
    let is = c.at_mut-call.ensures.call in
    let idle = of_some_and _ (IsIdleOf c.self.inside.calls.pace) call is entered.idle in
    rw (← c.self.view_is) (start_stands (record {
      client = is_client c.self.inside.side;
      calls = c.enter.new.self;
      pool = c.self.inside.pool;
      shared = c.self.inside.shared;
      common = c.self.inside.common;
    }) c.in_ok-key.key call c.start.new.self c.self.inside.calls.pace c.args.now is
    (c.start.ensures.stands c.self.inside.pool) c.start.ensures.client c.start.ensures.pace idle.pace_is
    entered.others.pace)
