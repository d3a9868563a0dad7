use Rattle.std.proofs.Common.{◌≡◌, List, Some, subst, sym}
use Rattle.rx_dispatch.specs.declared.dispatcher.Dispatcher.{Dispatcher}
use Rattle.rx_jobs.specs.Handlers.{handlers_of}
use Rattle.rx_jobs.specs.Jobs.{JobState}
use Rattle.rx_dispatch.specs.States.{state_of}
use Rattle.rx_node.specs.Node.{setup_of}
use Rattle.rx_server.specs.Server.{Stands}
use Rattle.rx_wire_loop.specs.Ports.{takes}
use Rattle.rx_drive.specs.Ran.{stop_of}
use Rattle.rx_wire_loop.specs.Runs.{Plays, change}
use Rattle.rx_wire_loop.specs.Serves.{dispatches, pass, plays}
use Rattle.rx_wire_loop.specs.Tells.{sink_tells, told, wire_tells}
use Rattle.rx_wire_loop.proofs.Passing.{pass_early, pass_take, takes_at}
use Rattle.rx_wire_loop.proofs.Running.{behind_made, stopped}
use Rattle.rx_wire_loop.proofs.serving.ServedNode.pass.Goals as goal

pub take-requires-clause-behind : goal.take-requires-clause-behind
take-requires-clause-behind g c =
    behind_made 0 (setup_of g.C.Class.class_of c.args.self.now.server.node)
    (setup_of g.C.Class.class_of c.play.new.self.server.node) _ _ _ _
    (plays c.args.self.now.ports.joiner.most
    (dispatches (handlers_of c.args.iface.now (state_of c.args.self.now.dispatcher).script))
    (state_of c.args.self.now.dispatcher).round.jobs)
    (λ (js : List JobState). js ≡ (state_of c.play.new.self.dispatcher).round.jobs) c.play.ensures.setup
    c.requires.behind c.in_ok-play.ensures.plays

pub returns-in_err-play-clause-plays : goal.returns-in_err-play-clause-plays
returns-in_err-play-clause-plays g c =
    rw (stopped c.from_residual.result c.in_err-play.field-0.0 c.from_residual.ensures.1)
    (pass_early 0 (setup_of g.C.Class.class_of c.args.self.now.server.node) (plays c.args.self.now.ports.joiner.most
    (dispatches (handlers_of c.args.iface.now (state_of c.args.self.now.dispatcher).script)))
    (takes (setup_of g.C.Class.class_of c.args.self.now.server.node) (Some c.args.end))
    (state_of c.args.self.now.dispatcher).round.jobs (λ (js : List JobState). js ≡
    (state_of c.play.new.self.dispatcher).round.jobs) _ _ _ _ c.in_err-play.field-0.0 c.in_err-play.ensures.plays)

pub returns-clause-plays : goal.returns-clause-plays
returns-clause-plays g c =
    subst (λ (d : Dispatcher). Plays (change 0 (setup_of g.C.Class.class_of c.args.self.now.server.node)
    (Stands g.C.Class.class_of c.args.self.now.server) (Stands g.C.Class.class_of c.take.new.self.server)
    (told (g.J.Journal.told c.args.book.now) (sink_tells (g.O.Sink.told c.args.out.now)
    (g.O.Sink.faults c.args.out.now)) (wire_tells (g.W.Wire.told c.args.wire.now) (g.W.Wire.faults c.args.wire.now)
    (g.W.Wire.moment c.args.wire.now))) (told (g.J.Journal.told c.take.new.book) (sink_tells
    (g.O.Sink.told c.play.new.out) (g.O.Sink.faults c.play.new.out)) (wire_tells (g.W.Wire.told c.take.new.wire)
    (g.W.Wire.faults c.take.new.wire) (g.W.Wire.moment c.take.new.wire)))) (pass (plays
    c.args.self.now.ports.joiner.most (dispatches (handlers_of c.args.iface.now (state_of
    c.args.self.now.dispatcher).script))) (takes (setup_of g.C.Class.class_of c.args.self.now.server.node)
    (Some c.args.end)) (state_of c.args.self.now.dispatcher).round.jobs) (λ (js : List JobState). js ≡
    (state_of d).round.jobs) (stop_of c.take.result)) (sym c.take.ensures.dispatcher)
    (pass_take 0 (setup_of g.C.Class.class_of c.args.self.now.server.node) (plays c.args.self.now.ports.joiner.most
    (dispatches (handlers_of c.args.iface.now (state_of c.args.self.now.dispatcher).script)))
    (takes (setup_of g.C.Class.class_of c.args.self.now.server.node) (Some c.args.end))
    (state_of c.args.self.now.dispatcher).round.jobs (λ (js : List JobState). js ≡
    (state_of c.play.new.self.dispatcher).round.jobs) _ _ _ _ _ _ (stop_of c.take.result) c.in_ok-play.ensures.plays
    (takes_at 0 (setup_of g.C.Class.class_of c.args.self.now.server.node) (setup_of g.C.Class.class_of
    c.play.new.self.server.node) _ _ _ _ (Some c.args.end) (stop_of c.take.result) c.play.ensures.setup
    (c.take.ensures.plays (sink_tells _ _))))
