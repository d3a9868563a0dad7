use Rattle.std.proofs.Common.{refl}
use Rattle.rx_asks.specs.declared.ask.TheConstants.{REPLY_BYTES}
use Rattle.rx_caller.specs.Turn.{CallerWants}
use Rattle.rx_drive.proofs.Calling.{calls_none, calls_some, next_done, stays_done}
use Rattle.rx_drive.proofs.TurnLaws.{wants_once}
use Rattle.rx_drive.proofs.turns.call.Goals as goal

pub returns-in_err-event-clause-calls : goal.returns-in_err-event-clause-calls
returns-in_err-event-clause-calls g c =
    wants_once _ (CallerWants REPLY_BYTES) c.args.number _ _ _ _ c.args.caller.now c.step.new.self _
    c.from_residual.result c.from_residual.ensures c.in_err-event.ensures.wants

pub returns-in-Some-clause-calls : goal.returns-in-Some-clause-calls
returns-in-Some-clause-calls g c =
    calls_some g.C.Class.class_of c.args.number _ _ _ REPLY_BYTES (record {
      old = c.args.caller.now;
      new = c.step.new.self;
      client_old = c.args.client.now;
      client_new = c.step.new.client;
    }) c.in_ok-event.field-0 c.in-Some.event c.tell_call.result c.in-Some.is c.in_ok-event.ensures.made
    c.tell_call.ensures.told c.tell_call.ensures.goes

pub returns-in-None-clause-calls : goal.returns-in-None-clause-calls
returns-in-None-clause-calls g c =
    calls_none g.C.Class.class_of c.args.number _ _ _ REPLY_BYTES (record {
      old = c.args.caller.now;
      new = c.step.new.self;
      client_old = c.args.client.now;
      client_new = c.step.new.client;
    }) c.in_ok-event.field-0 c.in-None.is refl c.in_ok-event.ensures.made

pub returns-in_err-event-clause-done : goal.returns-in_err-event-clause-done
returns-in_err-event-clause-done g c =
    stays_done (record {
      old = c.args.caller.now;
      new = c.step.new.self;
      client_old = c.args.client.now;
      client_new = c.step.new.client;
    }) c.in_err-event.ensures.wanting

pub returns-in-Some-clause-done : goal.returns-in-Some-clause-done
returns-in-Some-clause-done g c =
    next_done g.C.Class.class_of (record {
      old = c.args.caller.now;
      new = c.step.new.self;
      client_old = c.args.client.now;
      client_new = c.step.new.client;
    }) c.in_ok-event.field-0 c.in_ok-event.ensures.made

pub returns-in-None-clause-done : goal.returns-in-None-clause-done
returns-in-None-clause-done g c =
    next_done g.C.Class.class_of (record {
      old = c.args.caller.now;
      new = c.step.new.self;
      client_old = c.args.client.now;
      client_new = c.step.new.client;
    }) c.in_ok-event.field-0 c.in_ok-event.ensures.made
