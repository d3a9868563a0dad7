-- The call is looked for, its event is made, and then it is told.
use Rattle.rx_events.specs.Events.{IsShut}
use Rattle.rx_script.specs.declared.outcome.PlanWhy.TheVariants as causes
use Rattle.rx_plan.specs.Finds.{call_at}
use Rattle.rx_stage.specs.Ran.{stop_of}
use Rattle.rx_plan.specs.Stages.{event}
use Rattle.rx_plan.specs.declared.call.ClientCall.{ClientCall}
use Rattle.rx_stage.proofs.Making.{event_told, found_goes, names_none}
use Rattle.rx_stage.proofs.world.World.shut_line.Goals as goal

pub returns-in_err-call-clause-plays : goal.returns-in_err-call-clause-plays
returns-in_err-call-clause-plays g c =
    names_none causes.NoCall (λ (x : ClientCall). event x.node (IsShut x.name)) (call_at c.args.k) _ _
    c.from_residual.result
    c.in_err-call.field-0.0 _ c.from_residual.ensures c.in_err-call.ensures.found

pub returns-clause-plays : goal.returns-clause-plays
returns-clause-plays g c =
    found_goes causes.NoCall (λ (x : ClientCall). event x.node (IsShut x.name)) (call_at c.args.k) c.in_ok-call.call _ _
    (stop_of c.tell.result) _ _ c.in_ok-call.ensures.found
    (event_told c.in_ok-call.call.node (λ s. let x = c.in_ok-call.call in IsShut x.name) c.shut-event.result _ _ _
    c.shut-event.new.self
    (stop_of c.tell.result) _ _ c.self.view_is c.tell.ensures.same c.shut-event.ensures.made
    c.in_ok-call.ensures.there.1
    (λ s shown. c.shut-event.ensures.event) c.tell.ensures.told)
