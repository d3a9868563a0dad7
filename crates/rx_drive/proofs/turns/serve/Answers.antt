use Rattle.std.proofs.Common.{refl}
use Rattle.rx_dispatch.specs.Rounds.{turning_of}
use Rattle.rx_dispatch.specs.States.{state_of}
use Rattle.rx_jobs.specs.Handlers.{handlers_of}
use Rattle.rx_drive.proofs.Calling.{serves_none, serves_some, wanting_before}
use Rattle.rx_drive.proofs.TurnLaws.{wants_once}
use Rattle.rx_drive.proofs.turns.serve.Goals as goal

pub returns-in_err-event-clause-calls : goal.returns-in_err-event-clause-calls
returns-in_err-event-clause-calls g c =
    wants_once _ _ c.args.number _ _ _ _
    (turning_of (handlers_of c.args.iface.now (state_of c.args.dispatcher.now).script)
    (state_of c.args.dispatcher.now).round)
    (turning_of (handlers_of c.args.iface.now (state_of c.args.dispatcher.now).script)
    (state_of c.step.new.self).round) _
    c.from_residual.result c.from_residual.ensures
    (wanting_before (handlers_of c.args.iface.now (state_of c.args.dispatcher.now).script)
    (state_of c.step.new.self).round _
    c.in_err-event.ensures.wanting.0 c.in_err-event.ensures.wants)

pub returns-in-Some-clause-calls : goal.returns-in-Some-clause-calls
returns-in-Some-clause-calls g c =
    serves_some g.C.Class.class_of c.args.number _ _ _
    (handlers_of c.args.iface.now (state_of c.args.dispatcher.now).script) c.args.server.now c.step.new.server _ _
    (state_of c.step.new.self).round.jobs c.in_ok-event.field-0 c.in-Some.event c.tell_call.result c.in-Some.is
    c.in_ok-event.ensures.made c.tell_call.ensures.told c.tell_call.ensures.goes

pub returns-in-None-clause-calls : goal.returns-in-None-clause-calls
returns-in-None-clause-calls g c =
    serves_none g.C.Class.class_of c.args.number _ _ _
    (handlers_of c.args.iface.now (state_of c.args.dispatcher.now).script) c.args.server.now c.step.new.server _ _
    (state_of c.step.new.self).round.jobs c.in_ok-event.field-0 c.in-None.is refl c.in_ok-event.ensures.made
