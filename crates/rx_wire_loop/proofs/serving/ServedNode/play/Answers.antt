use Rattle.std.proofs.Common.{◌≡◌, ◌∙◌, List, None, ap, refl}
use Rattle.rx_jobs.specs.Handlers.{handlers_of}
use Rattle.rx_jobs.specs.Jobs.{JobState}
use Rattle.rx_dispatch.specs.States.{state_of}
use Rattle.rx_node.specs.Node.{setup_of}
use Rattle.rx_wire_loop.specs.declared.ports.Ports.{Ports}
use Rattle.rx_wire_loop.specs.Ports.{clocks, polls}
use Rattle.rx_drive.specs.Ran.{stop_of}
use Rattle.rx_wire_loop.specs.Serves.{dispatches}
use Rattle.rx_wire_loop.specs.Tells.{sink_tells, wire_tells}
use Rattle.rx_wire_loop.proofs.Passing.{play_clock, play_first, play_last, play_turn, polls_at}
use Rattle.rx_wire_loop.proofs.Polling.{Anyhow}
use Rattle.rx_wire_loop.proofs.Running.{behind_made, plays_at, stopped}
use Rattle.rx_wire_loop.proofs.Taking.{Anything}
use Rattle.rx_wire_loop.proofs.serving.ServedNode.play.Goals as goal

pub give_due-requires-clause-behind : goal.give_due-requires-clause-behind
give_due-requires-clause-behind g c =
    behind_made _ (setup_of g.C.Class.class_of c.args.self.now.server.node)
    (setup_of g.C.Class.class_of c.clock.new.node.node) _ _ _ _ clocks Anything c.clock.ensures.setup c.requires.behind
    (c.in_ok-clock.ensures.plays (sink_tells None 0))

pub give_due-requires-2-clause-behind : goal.give_due-requires-2-clause-behind
give_due-requires-2-clause-behind g c =
    behind_made 0 (setup_of g.C.Class.class_of c.give_due.new.node.node)
    (setup_of g.C.Class.class_of c.dispatch.new.self.server.node) _ _ _ _ (dispatches
    (handlers_of c.args.iface.now (state_of c.args.self.now.dispatcher).script)
    (state_of c.args.self.now.dispatcher).round.jobs)
    (λ (js : List JobState). js ≡ (state_of c.dispatch.new.self.dispatcher).round.jobs) c.dispatch.ensures.setup
    (behind_made _ (setup_of g.C.Class.class_of c.clock.new.node.node)
    (setup_of g.C.Class.class_of c.give_due.new.node.node) _ _ _ _ (polls c.args.self.now.ports.joiner.most) Anyhow
    c.give_due.ensures.setup (behind_made _ (setup_of g.C.Class.class_of c.args.self.now.server.node)
    (setup_of g.C.Class.class_of c.clock.new.node.node) _ _ _ _ clocks Anything c.clock.ensures.setup c.requires.behind
    (c.in_ok-clock.ensures.plays (sink_tells None 0))) (c.in_ok-give_due.ensures.plays (sink_tells None 0)))
    (c.in_ok-dispatch.ensures.plays (wire_tells None 0 (g.W.Wire.moment c.give_due.new.wire)))

pub returns-in_err-clock-clause-plays : goal.returns-in_err-clock-clause-plays
returns-in_err-clock-clause-plays g c =
    rw (stopped c.from_residual.result c.in_err-clock.field-0.0 c.from_residual.ensures.1)
    (play_clock 0 _ c.args.self.now.ports.joiner.most (dispatches (handlers_of c.args.iface.now
    (state_of c.args.self.now.dispatcher).script)) (state_of c.args.self.now.dispatcher).round.jobs
    (λ (js : List JobState). js ≡ (state_of c.args.self.now.dispatcher).round.jobs) _ _ _ _ c.in_err-clock.field-0.0
    (plays_at 0 c.args.self.now.ports.node _ _ _ _ _ _ clocks Anything _ c.requires.ready.number refl
    (c.in_err-clock.ensures.plays _)))

pub returns-in_err-give_due-clause-plays : goal.returns-in_err-give_due-clause-plays
returns-in_err-give_due-clause-plays g c =
    rw (stopped c.from_residual-in_err-give_due.result c.in_err-give_due.field-0.0
    c.from_residual-in_err-give_due.ensures.1) (play_first 0 _ c.args.self.now.ports.joiner.most
    (dispatches (handlers_of c.args.iface.now (state_of c.args.self.now.dispatcher).script))
    (state_of c.args.self.now.dispatcher).round.jobs (λ (js : List JobState). js ≡
    (state_of c.args.self.now.dispatcher).round.jobs) _ _ _ _ _ _ c.in_err-give_due.field-0.0
    (plays_at 0 c.args.self.now.ports.node _ _ _ _ _ _ clocks Anything _ c.requires.ready.number refl
    (c.in_ok-clock.ensures.plays _)) (polls_at 0 c.args.self.now.ports.node _ _ _ _ _ _
    c.args.self.now.ports.joiner.most c.args.self.now.ports.joiner.most _ c.requires.ready.number c.clock.ensures.setup
    refl (c.in_err-give_due.ensures.plays _)))

pub returns-in_err-dispatch-clause-plays : goal.returns-in_err-dispatch-clause-plays
returns-in_err-dispatch-clause-plays g c =
    rw (stopped c.from_residual-in_err-dispatch.result c.in_err-dispatch.field-0.0
    c.from_residual-in_err-dispatch.ensures.1) (play_turn 0 _ c.args.self.now.ports.joiner.most
    (dispatches (handlers_of c.args.iface.now (state_of c.args.self.now.dispatcher).script))
    (state_of c.args.self.now.dispatcher).round.jobs (λ (js : List JobState). js ≡
    (state_of c.dispatch.new.self.dispatcher).round.jobs) _ _ _ _ _ _ _ _ c.in_err-dispatch.field-0.0
    (λ (js : List JobState). js ≡ (state_of c.dispatch.new.self.dispatcher).round.jobs)
    (plays_at 0 c.args.self.now.ports.node _ _ _ _ _ _ clocks Anything _ c.requires.ready.number refl
    (c.in_ok-clock.ensures.plays _)) (polls_at 0 c.args.self.now.ports.node _ _ _ _ _ _
    c.args.self.now.ports.joiner.most c.args.self.now.ports.joiner.most _ c.requires.ready.number c.clock.ensures.setup
    refl (c.in_ok-give_due.ensures.plays _)) (plays_at 0 0 _ _ _ _ _ _ (dispatches
    (handlers_of c.args.iface.now (state_of c.args.self.now.dispatcher).script) (state_of
    c.args.self.now.dispatcher).round.jobs) (λ (js : List JobState). js ≡ (state_of
    c.dispatch.new.self.dispatcher).round.jobs) _ refl (c.give_due.ensures.setup ∙ c.clock.ensures.setup)
    (c.in_err-dispatch.ensures.plays _)))

pub returns-clause-plays : goal.returns-clause-plays
returns-clause-plays g c =
    play_last 0 _ c.args.self.now.ports.joiner.most (dispatches (handlers_of c.args.iface.now
    (state_of c.args.self.now.dispatcher).script)) (state_of c.args.self.now.dispatcher).round.jobs
    (λ (js : List JobState). js ≡ (state_of c.dispatch.new.self.dispatcher).round.jobs) _ _ _ _ _ _ _ _ _ _
    (stop_of c.give_due-2.result) (plays_at 0 c.args.self.now.ports.node _ _ _ _ _ _ clocks Anything _
    c.requires.ready.number refl (c.in_ok-clock.ensures.plays _)) (polls_at 0 c.args.self.now.ports.node _ _ _ _ _ _
    c.args.self.now.ports.joiner.most c.args.self.now.ports.joiner.most _ c.requires.ready.number c.clock.ensures.setup
    refl (c.in_ok-give_due.ensures.plays _)) (plays_at 0 0 _ _ _ _ _ _ (dispatches
    (handlers_of c.args.iface.now (state_of c.args.self.now.dispatcher).script) (state_of
    c.args.self.now.dispatcher).round.jobs) (λ (js : List JobState). js ≡ (state_of
    c.dispatch.new.self.dispatcher).round.jobs) _ refl (c.give_due.ensures.setup ∙ c.clock.ensures.setup)
    (c.in_ok-dispatch.ensures.plays _)) (polls_at 0 c.dispatch.new.self.ports.node _ _ _ _ _ _
    c.dispatch.new.self.ports.joiner.most c.args.self.now.ports.joiner.most (stop_of c.give_due-2.result)
    (ap (λ (p : Ports). p.node) c.dispatch.ensures.ports ∙ c.give_due.ensures.node ∙ c.requires.ready.number)
    (c.dispatch.ensures.setup ∙ c.give_due.ensures.setup ∙ c.clock.ensures.setup)
    (ap (λ (p : Ports). p.joiner.most) c.dispatch.ensures.ports ∙ c.give_due.ensures.most)
    (c.give_due-2.ensures.plays _))
