-- The call is looked for, its event is made, and then it is told.
use Rattle.std.proofs.Common.{refl, subst}
use Rattle.rx_joint.specs.Nodes.{Makes}
use Rattle.rx_events.specs.Events.{IsAsked}
use Rattle.rx_script.specs.declared.outcome.PlanWhy.TheVariants as causes
use Rattle.rx_plan.specs.Finds.{call_at}
use Rattle.rx_stage.specs.Ran.{stop_of}
use Rattle.rx_stage.specs.Shown.{WorldState}
use Rattle.rx_plan.specs.Stages.{event}
use Rattle.rx_plan.specs.declared.call.ClientCall.{ClientCall}
use Rattle.rx_stage.proofs.Making.{event_told, found_goes, names_none}
use Rattle.rx_stage.proofs.world.World.ask_line.Goals as goal

pub returns-in_err-call-clause-plays : goal.returns-in_err-call-clause-plays
returns-in_err-call-clause-plays g c =
    names_none causes.NoCall (λ (x : ClientCall). event x.node (IsAsked x.name)) (call_at c.args.k) _ _
    c.from_residual.result
    c.in_err-call.field-0.0 _ c.from_residual.ensures c.in_err-call.ensures.found

pub returns-clause-plays : goal.returns-clause-plays
returns-clause-plays g c =
    found_goes causes.NoCall (λ (x : ClientCall). event x.node (IsAsked x.name)) (call_at c.args.k)
    c.in_ok-call.call _ _
    (stop_of c.tell.result) _ _ c.in_ok-call.ensures.found
    (event_told c.in_ok-call.call.node (λ s. IsAsked c.in_ok-call.call.name) c.ask-event.result c.args.self.now _ _
    c.args.self.now.nodes (stop_of c.tell.result) _ _ refl c.tell.ensures.same
    (subst (λ (v : WorldState). Makes v.nodes v.nodes c.in_ok-call.call.node c.ask-event.result) c.self.view_is
    c.ask-event.ensures.made) c.in_ok-call.ensures.there.1 (λ s shown. c.ask-event.ensures.event) c.tell.ensures.told)
