use Rattle.std.proofs.Common.{None, refl}
use Rattle.rx_node.specs.Node.{setup_of}
use Rattle.rx_wire_loop.specs.Calls.{begins_to}
use Rattle.rx_wire_loop.specs.Ports.{clocks}
use Rattle.rx_drive.specs.Ran.{stop_of}
use Rattle.rx_wire_loop.specs.Tells.{sink_tells}
use Rattle.rx_wire_loop.proofs.Beginning.{clocked_alone}
use Rattle.rx_wire_loop.proofs.Running.{plays_at, plays_stops, plays_then, stopped}
use Rattle.rx_wire_loop.proofs.Taking.{Anything}
use Rattle.rx_wire_loop.proofs.calling.begin.Goals as goal

pub begin_to-requires-clause-clocked : goal.begin_to-requires-clause-clocked
begin_to-requires-clause-clocked g c =
    clocked_alone _ (setup_of g.C.Class.class_of c.args.client.now) _ _ _ _ Anything c.requires.stands
    (c.in_ok-clock.ensures.plays (sink_tells None 0))

pub returns-in_err-clock-clause-plays : goal.returns-in_err-clock-clause-plays
returns-in_err-clock-clause-plays g c =
    λ sink. rw (stopped c.from_residual.result c.in_err-clock.field-0.0 c.from_residual.ensures.1)
    (plays_stops 1 _ _ _ _ _ clocks (λ t. begins_to c.args.calling.now.to c.args.calling.now.service) Anything _
    c.in_err-clock.field-0.0 (plays_at 1 c.args.ports.now.node _ _ _ _ _ _ clocks Anything _ c.requires.number refl
    (c.in_err-clock.ensures.plays sink)))

pub returns-clause-plays : goal.returns-clause-plays
returns-clause-plays g c =
    λ sink. plays_then 1 _ _ _ _ _ _ _ clocks (λ t. begins_to c.args.calling.now.to c.args.calling.now.service) Anything
    _ (stop_of c.begin_to.result) (plays_at 1 c.args.ports.now.node _ _ _ _ _ _ clocks Anything _ c.requires.number refl
    (c.in_ok-clock.ensures.plays sink)) (λ t i. plays_at 1 1 _ _ _ _ _ _ (begins_to c.args.calling.now.to
    c.args.calling.now.service) _ (stop_of c.begin_to.result) refl c.clock.ensures.setup
    (c.begin_to.ensures.plays sink _))
