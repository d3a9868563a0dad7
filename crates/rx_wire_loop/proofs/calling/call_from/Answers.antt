use Rattle.std.proofs.Common.{◌≡◌, ◌∙◌, ◌≤◌, [], Err, None, Some, ap, arith, refl}
use Rattle.rx_model.specs.declared.names.CallName.{CallName}
use Rattle.rx_node.specs.Node.{setup_of}
use Rattle.rx_wire_loop.specs.Calls.{begins}
use Rattle.rx_wire_loop.specs.Tells.{sink_tells, told}
use Rattle.rx_drive.specs.declared.stop.Stop.TheVariants.{OutOfMemory, Unnoted}
use Rattle.rx_wire_loop.proofs.Beginning.{call_begun, call_unbegun, call_unmade}
use Rattle.rx_wire_loop.proofs.Running.{behind_made, is_stopped, plays_at}
use Rattle.rx_wire_loop.proofs.calling.call_from.Goals as goal

pub passes-requires-clause-behind : goal.passes-requires-clause-behind
passes-requires-clause-behind g c =
    let low : 0 ≤ g.W.Wire.moment c.args.wire.now = omega arith in
    behind_made 1 (setup_of g.C.Class.class_of c.in_ok-client.client) (setup_of g.C.Class.class_of c.begin.new.client) _
    _ _ _ (begins c.args.calling.now) (λ (x : CallName). x ≡ c.in_ok-name.name) c.begin.ensures.setup
    ([], c.in_ok-client.ensures.stands, low) (c.in_ok-name.ensures.plays (sink_tells None 0))

pub returns-in_err-client-clause-calls : goal.returns-in_err-client-clause-calls
returns-in_err-client-clause-calls g c =
    λ sink. rw (is_stopped c.from_residual.result OutOfMemory c.from_residual.ensures.1)
    (call_unmade c.args.calling.now c.args.request.items _ (told _ sink _))

pub returns-in_err-ports-clause-calls : goal.returns-in_err-ports-clause-calls
returns-in_err-ports-clause-calls g c =
    λ sink. rw (is_stopped c.from_residual-in_err-ports.result OutOfMemory c.from_residual-in_err-ports.ensures.1)
    (call_unmade c.args.calling.now c.args.request.items _ (told _ sink _))

pub returns-in_err-name-clause-calls : goal.returns-in_err-name-clause-calls
returns-in_err-name-clause-calls g c =
    λ sink. rw (is_stopped c.from_residual-in_err-name.result c.in_err-name.field-0.0
    c.from_residual-in_err-name.ensures.1 ∙ ap Err c.in_err-name.ensures.refused)
    (call_unbegun c.args.calling.now c.args.request.items _ _ _ _ _ sink _ c.in_ok-client.ensures.stands _
    (plays_at 1 1 _ _ _ _ _ _ (begins c.args.calling.now) _ (Some Unnoted) refl c.in_ok-client.ensures.setup
    (rw c.in_err-name.ensures.refused at (c.in_err-name.ensures.plays sink))))

pub returns-clause-calls : goal.returns-clause-calls
returns-clause-calls g c =
    λ sink. call_begun c.args.calling.now c.args.request.items _ _ _ _ _ sink _ c.in_ok-client.ensures.stands
    c.in_ok-name.name _ c.in_ok-ports.ports.joiner.most c.make-2.result c.passes.result _
    (plays_at 1 1 _ _ _ _ _ _ (begins c.args.calling.now) (λ (x : CallName). x ≡ c.in_ok-name.name) None refl
    c.in_ok-client.ensures.setup (c.in_ok-name.ensures.plays sink)) (c.begin.ensures.setup
    ∙ c.in_ok-client.ensures.setup) c.in_ok-ports.ensures.most c.make-2.ensures
    (λ p at. c.passes.ensures.calls sink p at)
