-- The client is looked for, the event is made and told, and then its name is kept.
use Rattle.std.proofs.Common.{None}
use Rattle.rx_events.specs.Events.{IsCalled}
use Rattle.rx_script.specs.declared.outcome.PlanWhy.TheVariants as causes
use Rattle.rx_plan.specs.Finds.{client_at}
use Rattle.rx_plan.specs.Lines.{calls, with_called}
use Rattle.rx_plan.specs.Parts.{To}
use Rattle.rx_stage.specs.Ran.{stop_of}
use Rattle.rx_stage.proofs.Keeping.{called_comes}
use Rattle.rx_stage.proofs.Making.{event_kept, event_stopped, event_unkept, found_goes, names_none}
use Rattle.rx_stage.proofs.world.World.call_line.Goals as goal

pub returns-in_err-node-clause-plays : goal.returns-in_err-node-clause-plays
returns-in_err-node-clause-plays g c =
    names_none causes.NoNode (calls c.args.cid) (client_at c.args.client) _ _ c.from_residual.result
    c.in_err-node.field-0.0 _ c.from_residual.ensures c.in_err-node.ensures.found

pub returns-in_err-tell-clause-plays : goal.returns-in_err-tell-clause-plays
returns-in_err-tell-clause-plays g c =
    found_goes causes.NoNode (calls c.args.cid) (client_at c.args.client) c.in_ok-node.node _ _
    (stop_of c.from_residual-in_err-tell.result) _ _ c.in_ok-node.ensures.found
    (event_stopped c.in_ok-node.node (λ s. IsCalled c.args.cid) (λ s e t. To (with_called c.in_ok-node.node e t))
    c.call-event.result _ _ _ c.call-event.new.self c.from_residual-in_err-tell.result c.in_err-tell.field-0.0 _ _
    c.self.view_is c.call-event.ensures.made (λ s shown. c.call-event.ensures.event) c.in_err-tell.ensures.told
    c.from_residual-in_err-tell.ensures)

pub returns-in_err-keep_called-clause-plays : goal.returns-in_err-keep_called-clause-plays
returns-in_err-keep_called-clause-plays g c =
    found_goes causes.NoNode (calls c.args.cid) (client_at c.args.client) c.in_ok-node.node _ _
    (stop_of c.from_residual-in_err-keep_called.result) _ _ c.in_ok-node.ensures.found
    (event_unkept c.in_ok-node.node (λ s. IsCalled c.args.cid) (λ s e t. To (with_called c.in_ok-node.node e t))
    c.call-event.result _ _ _ c.call-event.new.self c.from_residual-in_err-keep_called.result _ _ c.self.view_is
    c.call-event.ensures.made c.in_ok-node.ensures.there.1 (λ s shown. c.call-event.ensures.event)
    c.in_ok-tell.ensures.told c.from_residual-in_err-keep_called.ensures)

pub returns-clause-plays : goal.returns-clause-plays
returns-clause-plays g c =
    found_goes causes.NoNode (calls c.args.cid) (client_at c.args.client) c.in_ok-node.node _ _ None _ _
    c.in_ok-node.ensures.found
    (event_kept c.in_ok-node.node (λ s. IsCalled c.args.cid) (λ s e t. To (with_called c.in_ok-node.node e t))
    c.call-event.result _ _ c.tell.new.self _ c.call-event.new.self None _ _ c.self.view_is c.tell.ensures.same
    c.call-event.ensures.made c.in_ok-node.ensures.there.1 (λ s shown. c.call-event.ensures.event)
    c.in_ok-tell.ensures.told
    (λ s t shown after. called_comes _ c.tell.new.self t c.in_ok-node.node c.keep_called.new.calls.items
    c.call-event.result _ c.self-2.view_is after c.in_ok-keep_called.ensures))
