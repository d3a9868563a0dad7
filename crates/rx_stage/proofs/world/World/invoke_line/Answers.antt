-- The client is looked for, the event is made and told, and then its name is kept.
use Rattle.std.proofs.Common.{List, subst, ℕ, ◌≡◌}
use Rattle.hex.specs.Hex.{IsBytes}
use Rattle.rx_model.specs.declared.event.Event.{Event}
use Rattle.rx_events.specs.Events.{IsCalled}
use Rattle.rx_script.specs.declared.outcome.PlanWhy.TheVariants as causes
use Rattle.rx_plan.specs.Finds.{client_at}
use Rattle.rx_plan.specs.Lines.{IsInvoked, invokes, with_called, with_caller}
use Rattle.rx_plan.specs.Parts.{To}
use Rattle.rx_stage.specs.Ran.{stop_of}
use Rattle.rx_plan.specs.Stages.{name_called}
use Rattle.rx_stage.proofs.Keeping.{invoked_comes}
use Rattle.rx_stage.proofs.Making.{event_kept, event_stopped, event_unkept, found_goes, names_none}
use Rattle.rx_stage.proofs.world.World.invoke_line.Goals as goal

-- the call that was made, for which there are these bytes
with_bytes : (cid : ℕ) (bytes now : List ℕ) (e : Event) → now ≡ bytes → IsCalled cid e → IsBytes now
    → IsInvoked cid bytes e
with_bytes cid bytes now e same called fits = (called, subst IsBytes same fits)

pub returns-in_err-node-clause-plays : goal.returns-in_err-node-clause-plays
returns-in_err-node-clause-plays g c =
    names_none causes.NoNode (invokes c.args.invoke.line c.args.invoke.cid c.args.invoke.bytes.items) (client_at
    c.args.invoke.client) _ _ c.from_residual.result
    c.in_err-node.field-0.0 _ c.from_residual.ensures c.in_err-node.ensures.found

pub returns-in_err-tell-clause-plays : goal.returns-in_err-tell-clause-plays
returns-in_err-tell-clause-plays g c =
    found_goes causes.NoNode (invokes c.args.invoke.line c.args.invoke.cid c.args.invoke.bytes.items) (client_at
    c.args.invoke.client) c.in_ok-node.node _ _
    (stop_of c.from_residual-in_err-tell.result) _ _ c.in_ok-node.ensures.found
    (event_stopped c.in_ok-node.node (λ s. IsInvoked c.args.invoke.cid c.args.invoke.bytes.items)
    (λ s e t. To (with_caller c.in_ok-node.node c.args.invoke.line c.args.invoke.bytes.items (name_called e)
    (with_called c.in_ok-node.node e t)))
    c.call-event.result _ _ _ c.call-event.new.self c.from_residual-in_err-tell.result c.in_err-tell.field-0.0 _ _
    c.self.view_is c.call-event.ensures.made
    (λ s shown. with_bytes _ _ _ _ c.deref.ensures.value c.call-event.ensures.event c.are_bytes.ensures)
    c.in_err-tell.ensures.told c.from_residual-in_err-tell.ensures)

pub returns-in_err-keep_called-clause-plays : goal.returns-in_err-keep_called-clause-plays
returns-in_err-keep_called-clause-plays g c =
    found_goes causes.NoNode (invokes c.args.invoke.line c.args.invoke.cid c.args.invoke.bytes.items) (client_at
    c.args.invoke.client) c.in_ok-node.node _ _
    (stop_of c.from_residual-in_err-keep_called.result) _ _ c.in_ok-node.ensures.found
    (event_unkept c.in_ok-node.node (λ s. IsInvoked c.args.invoke.cid c.args.invoke.bytes.items)
    (λ s e t. To (with_caller c.in_ok-node.node c.args.invoke.line c.args.invoke.bytes.items (name_called e)
    (with_called c.in_ok-node.node e t)))
    c.call-event.result _ _ _ c.call-event.new.self c.from_residual-in_err-keep_called.result _ _ c.self.view_is
    c.call-event.ensures.made c.in_ok-node.ensures.there.1
    (λ s shown. with_bytes _ _ _ _ c.deref.ensures.value c.call-event.ensures.event c.are_bytes.ensures)
    c.in_ok-tell.ensures.told c.from_residual-in_err-keep_called.ensures)

pub returns-clause-plays : goal.returns-clause-plays
returns-clause-plays g c =
    found_goes causes.NoNode (invokes c.args.invoke.line c.args.invoke.cid c.args.invoke.bytes.items) (client_at
    c.args.invoke.client) c.in_ok-node.node _ _ (stop_of c.keep_caller.result) _ _ c.in_ok-node.ensures.found
    (event_kept c.in_ok-node.node (λ s. IsInvoked c.args.invoke.cid c.args.invoke.bytes.items)
    (λ s e t. To (with_caller c.in_ok-node.node c.args.invoke.line c.args.invoke.bytes.items (name_called e)
    (with_called c.in_ok-node.node e t))) c.call-event.result _ _ c.tell.new.self _ c.call-event.new.self
    (stop_of c.keep_caller.result) _ _ c.self.view_is c.tell.ensures.same c.call-event.ensures.made
    c.in_ok-node.ensures.there.1
    (λ s shown. with_bytes _ _ _ _ c.deref.ensures.value c.call-event.ensures.event c.are_bytes.ensures)
    c.in_ok-tell.ensures.told
    (λ s t shown after. invoked_comes _ c.tell.new.self c.keep_caller.new.self t c.in_ok-node.node c.args.invoke.line
    c.args.invoke.bytes.items c.keep_called.new.calls.items c.call-event.result c.keep_caller.result _ c.self-2.view_is
    after c.in_ok-keep_called.ensures c.keep_caller.ensures.kept c.keep_caller.ensures.wanting))
