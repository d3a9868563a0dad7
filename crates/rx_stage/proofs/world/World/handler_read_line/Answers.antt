-- The call is looked for, its event is made, and then it is told.
use Rattle.rx_model.specs.declared.names.CallName.{CallName}
use Rattle.rx_events.specs.Events.{IsReadIn}
use Rattle.rx_script.specs.declared.outcome.PlanWhy.TheVariants as causes
use Rattle.rx_plan.specs.Finds.{numbered}
use Rattle.rx_stage.specs.Ran.{stop_of}
use Rattle.rx_plan.specs.Stages.{Stage, event}
use Rattle.rx_stage.proofs.Making.{event_cut, event_told, found_goes, names_none, names_wants, server_there}
use Rattle.rx_stage.proofs.world.World.handler_read_line.Goals as goal

pub returns-in_err-name-clause-plays : goal.returns-in_err-name-clause-plays
returns-in_err-name-clause-plays g c =
    names_none causes.NoCall (λ (x : CallName). event 0 (IsReadIn x c.args.max)) (λ (s : Stage). numbered
    s.accepted c.args.k) _ _
    c.from_residual.result c.in_err-name.field-0.0 _ c.from_residual.ensures c.in_err-name.ensures

pub returns-in_err-event-clause-plays : goal.returns-in_err-event-clause-plays
returns-in_err-event-clause-plays g c =
    names_wants causes.NoCall (λ (x : CallName). event 0 (IsReadIn x c.args.max)) (λ (s : Stage). numbered
    s.accepted c.args.k)
    c.in_ok-name.name _ _ c.from_residual-in_err-event.result _ c.from_residual-in_err-event.ensures
    c.in_ok-name.ensures (event_cut 0 (let x = c.in_ok-name.name in IsReadIn x c.args.max))

pub returns-clause-plays : goal.returns-clause-plays
returns-clause-plays g c =
    found_goes causes.NoCall (λ (x : CallName). event 0 (IsReadIn x c.args.max)) (λ (s : Stage). numbered
    s.accepted c.args.k)
    c.in_ok-name.name _ _ (stop_of c.tell.result) _ _ c.in_ok-name.ensures
    (event_told 0 (λ s. let x = c.in_ok-name.name in IsReadIn x c.args.max) c.in_ok-event.event _ _ _
    c.handler_read.new.self
    (stop_of c.tell.result) _ _ c.self.view_is c.tell.ensures.same c.in_ok-event.ensures.made (server_there
    c.args.self.now.nodes)
    (λ s shown. c.in_ok-event.ensures.event) c.tell.ensures.told)
