-- The call is looked for, its event is made, and then it is told.
use Rattle.rx_events.specs.Events.{IsReadBack}
use Rattle.rx_script.specs.declared.outcome.PlanWhy.TheVariants as causes
use Rattle.rx_plan.specs.Finds.{call_at}
use Rattle.rx_stage.specs.Ran.{stop_of}
use Rattle.rx_plan.specs.Stages.{event}
use Rattle.rx_plan.specs.declared.call.ClientCall.{ClientCall}
use Rattle.rx_stage.proofs.Making.{event_cut, event_told, found_goes, names_none, names_wants}
use Rattle.rx_stage.proofs.world.World.read_line.Goals as goal

pub returns-in_err-call-clause-plays : goal.returns-in_err-call-clause-plays
returns-in_err-call-clause-plays g c =
    names_none causes.NoCall (λ (x : ClientCall). event x.node (IsReadBack x.name c.args.max)) (call_at c.args.k) _
    _ c.from_residual.result
    c.in_err-call.field-0.0 _ c.from_residual.ensures c.in_err-call.ensures.found

pub returns-in_err-event-clause-plays : goal.returns-in_err-event-clause-plays
returns-in_err-event-clause-plays g c =
    names_wants causes.NoCall (λ (x : ClientCall). event x.node (IsReadBack x.name c.args.max)) (call_at c.args.k)
    c.in_ok-call.call _ _
    c.from_residual-in_err-event.result _ c.from_residual-in_err-event.ensures c.in_ok-call.ensures.found
    (event_cut c.in_ok-call.call.node (let x = c.in_ok-call.call in IsReadBack x.name c.args.max))

pub returns-clause-plays : goal.returns-clause-plays
returns-clause-plays g c =
    found_goes causes.NoCall (λ (x : ClientCall). event x.node (IsReadBack x.name c.args.max)) (call_at c.args.k)
    c.in_ok-call.call _ _
    (stop_of c.tell.result) _ _ c.in_ok-call.ensures.found
    (event_told c.in_ok-call.call.node (λ s. let x = c.in_ok-call.call in IsReadBack x.name c.args.max)
    c.in_ok-event.event _ _ _ c.read.new.self
    (stop_of c.tell.result) _ _ c.self.view_is c.tell.ensures.same c.in_ok-event.ensures.made
    c.in_ok-call.ensures.there.1
    (λ s shown. c.in_ok-event.ensures.event) c.tell.ensures.told)
