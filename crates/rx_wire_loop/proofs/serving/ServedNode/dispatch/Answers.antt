use Rattle.std.proofs.Common.{◌≡◌, ap, rules, subst}
use Rattle.rx_dispatch.specs.States.{state_of}
use Rattle.rx_drive.specs.Ran.{stop_of}
use Rattle.rx_drive.specs.Tells.{Ways}
use Rattle.rx_jobs.specs.Handlers.{handlers_of}
use Rattle.rx_node.specs.Node.{setup_of}
use Rattle.rx_server.specs.Server.{Stands}
use Rattle.rx_wire_loop.specs.Runs.{Plays, change}
use Rattle.rx_wire_loop.specs.Serves.{dispatches}
use Rattle.rx_wire_loop.specs.Tells.{sink_tells, told}
use Rattle.rx_wire_loop.proofs.Driven.{dispatches_driven}
use Rattle.rx_wire_loop.proofs.serving.ServedNode.dispatch.Goals as goal

pub returns-clause-plays : goal.returns-clause-plays
returns-clause-plays g c =
    let names = ap (λ (w : Ways). w.names) c.dispatch.ensures.ways in
    let noted : c.dispatch.new.outside.book.now ≡ c.book-1.given.0 = search rules in
    let put : c.dispatch.new.outside.out.now ≡ c.out-1.given.0 = search rules in
    λ wire. subst (λ b. Plays (change 0 (setup_of g.C.Class.class_of c.args.self.now.server.node)
    (Stands g.C.Class.class_of c.args.self.now.server) (Stands g.C.Class.class_of c.dispatch.new.server)
    (told (g.J.Journal.told c.args.book.now)
    (sink_tells (g.O.Sink.told c.args.out.now) (g.O.Sink.faults c.args.out.now))
    wire) (told (g.J.Journal.told b) (sink_tells (g.O.Sink.told c.out-1.given.0) (g.O.Sink.faults c.out-1.given.0))
    wire))
    (dispatches (handlers_of c.args.iface.now (state_of c.args.self.now.dispatcher).script)
    (state_of c.args.self.now.dispatcher).round.jobs) (λ js. js ≡ (state_of c.dispatch.new.dispatcher).round.jobs)
    (stop_of c.dispatch.result)) noted
    (subst (λ o. Plays (change 0 (setup_of g.C.Class.class_of c.args.self.now.server.node)
    (Stands g.C.Class.class_of c.args.self.now.server) (Stands g.C.Class.class_of c.dispatch.new.server)
    (told (g.J.Journal.told c.args.book.now)
    (sink_tells (g.O.Sink.told c.args.out.now) (g.O.Sink.faults c.args.out.now))
    wire) (told (g.J.Journal.told c.dispatch.new.outside.book.now) (sink_tells (g.O.Sink.told o) (g.O.Sink.faults o))
    wire)) (dispatches (handlers_of c.args.iface.now (state_of c.args.self.now.dispatcher).script)
    (state_of c.args.self.now.dispatcher).round.jobs) (λ js. js ≡ (state_of c.dispatch.new.dispatcher).round.jobs)
    (stop_of c.dispatch.result)) put
    (dispatches_driven (setup_of g.C.Class.class_of c.args.self.now.server.node)
    (handlers_of c.args.iface.now (state_of c.args.self.now.dispatcher).script)
    (state_of c.args.self.now.dispatcher).round.jobs (state_of c.dispatch.new.dispatcher).round.jobs
    (Stands g.C.Class.class_of c.args.self.now.server) (Stands g.C.Class.class_of c.dispatch.new.server) _ _ _ _ wire
    (stop_of c.dispatch.result) c.dispatch.ensures.turned))
