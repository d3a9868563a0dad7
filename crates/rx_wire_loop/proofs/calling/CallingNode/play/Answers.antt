use Rattle.std.proofs.Common.{◌≡◌, ◌∙◌, None, Some, ap, refl}
use Rattle.rx_asks.specs.View.{CallerState}
use Rattle.rx_wire_loop.specs.Calls.{calls}
use Rattle.rx_node.specs.Node.{setup_of}
use Rattle.rx_wire_loop.specs.declared.ports.Ports.{Ports}
use Rattle.rx_wire_loop.specs.Ports.{clocks, polls}
use Rattle.rx_wire_loop.specs.Tells.{sink_tells, wire_tells}
use Rattle.rx_wire_loop.proofs.Passing.{play_clock, play_first, play_last, play_turn, polls_at}
use Rattle.rx_wire_loop.proofs.Polling.{Anyhow}
use Rattle.rx_wire_loop.proofs.Running.{behind_made, plays_at, stopped}
use Rattle.rx_wire_loop.proofs.Taking.{Anything}
use Rattle.rx_wire_loop.proofs.calling.CallingNode.play.Goals as goal

pub give_due-requires-clause-behind : goal.give_due-requires-clause-behind
give_due-requires-clause-behind g c =
    behind_made _ (setup_of g.C.Class.class_of c.args.self.now.client) (setup_of g.C.Class.class_of c.clock.new.node) _
    _
    _ _ clocks Anything c.clock.ensures.setup c.requires.behind (c.in_ok-clock.ensures.plays (sink_tells None 0))

pub give_due-requires-2-clause-behind : goal.give_due-requires-2-clause-behind
give_due-requires-2-clause-behind g c =
    behind_made 1 (setup_of g.C.Class.class_of c.give_due.new.node)
    (setup_of g.C.Class.class_of c.turn.new.self.client) _ _ _ _ (calls c.args.self.now.caller)
    (λ (v : CallerState). v ≡ c.turn.new.self.caller) c.turn.ensures.setup
    (behind_made _ (setup_of g.C.Class.class_of c.clock.new.node) (setup_of g.C.Class.class_of c.give_due.new.node) _ _
    _ _ (polls c.args.self.now.ports.joiner.most) Anyhow c.give_due.ensures.setup
    (behind_made _ (setup_of g.C.Class.class_of c.args.self.now.client) (setup_of g.C.Class.class_of c.clock.new.node) _
    _ _ _ clocks Anything c.clock.ensures.setup c.requires.behind (c.in_ok-clock.ensures.plays (sink_tells None 0)))
    (c.in_ok-give_due.ensures.plays (sink_tells None 0)))
    (c.in_ok-turn.ensures.plays (sink_tells None 0) (wire_tells None 0 (g.W.Wire.moment c.give_due.new.wire)))

pub returns-in_err-clock-clause-plays : goal.returns-in_err-clock-clause-plays
returns-in_err-clock-clause-plays g c =
    λ sink. rw (stopped c.from_residual.result c.in_err-clock.field-0.0 c.from_residual.ensures.1)
    (play_clock 1 _ c.args.self.now.ports.joiner.most calls c.args.self.now.caller
    (λ (v : CallerState). v ≡ c.args.self.now.caller) _ _ _ _ c.in_err-clock.field-0.0
    (plays_at 1 c.args.self.now.ports.node _ _ _ _ _ _ clocks Anything _ c.requires.ready.number refl
    (c.in_err-clock.ensures.plays sink)))

pub returns-in_err-give_due-clause-plays : goal.returns-in_err-give_due-clause-plays
returns-in_err-give_due-clause-plays g c =
    λ sink. rw (stopped c.from_residual-in_err-give_due.result c.in_err-give_due.field-0.0
    c.from_residual-in_err-give_due.ensures.1) (play_first 1 _ c.args.self.now.ports.joiner.most calls
    c.args.self.now.caller (λ (v : CallerState). v ≡ c.args.self.now.caller) _ _ _ _ _ _ c.in_err-give_due.field-0.0
    (plays_at 1 c.args.self.now.ports.node _ _ _ _ _ _ clocks Anything _ c.requires.ready.number refl
    (c.in_ok-clock.ensures.plays sink)) (polls_at 1 c.args.self.now.ports.node _ _ _ _ _ _
    c.args.self.now.ports.joiner.most c.args.self.now.ports.joiner.most _ c.requires.ready.number c.clock.ensures.setup
    refl (c.in_err-give_due.ensures.plays sink)))

pub returns-in_err-turn-clause-plays : goal.returns-in_err-turn-clause-plays
returns-in_err-turn-clause-plays g c =
    λ sink. rw (stopped c.from_residual-in_err-turn.result c.in_err-turn.field-0.0
    c.from_residual-in_err-turn.ensures.1)
    (play_turn 1 _ c.args.self.now.ports.joiner.most calls c.args.self.now.caller
    (λ (v : CallerState). v ≡ c.turn.new.self.caller) _ _ _ _ _ _ _ _ c.in_err-turn.field-0.0
    (λ (v : CallerState). v ≡ c.turn.new.self.caller)
    (plays_at 1 c.args.self.now.ports.node _ _ _ _ _ _ clocks Anything _ c.requires.ready.number refl
    (c.in_ok-clock.ensures.plays sink)) (polls_at 1 c.args.self.now.ports.node _ _ _ _ _ _
    c.args.self.now.ports.joiner.most c.args.self.now.ports.joiner.most _ c.requires.ready.number c.clock.ensures.setup
    refl (c.in_ok-give_due.ensures.plays sink)) (plays_at 1 1 _ _ _ _ _ _
    (calls c.args.self.now.caller) (λ (v : CallerState). v ≡ c.turn.new.self.caller) _ refl
    (c.give_due.ensures.setup ∙ c.clock.ensures.setup) (c.in_err-turn.ensures.plays sink _)))

pub returns-in_err-give_due-2-clause-plays : goal.returns-in_err-give_due-2-clause-plays
returns-in_err-give_due-2-clause-plays g c =
    λ sink. rw (stopped c.from_residual-in_err-give_due-2.result c.in_err-give_due-2.field-0.0
    c.from_residual-in_err-give_due-2.ensures.1) (play_last 1 _ c.args.self.now.ports.joiner.most calls
    c.args.self.now.caller (λ (v : CallerState). v ≡ c.turn.new.self.caller) _ _ _ _ _ _ _ _ _ _
    (Some c.in_err-give_due-2.field-0.0)
    (plays_at 1 c.args.self.now.ports.node _ _ _ _ _ _ clocks Anything _ c.requires.ready.number refl
    (c.in_ok-clock.ensures.plays sink)) (polls_at 1 c.args.self.now.ports.node _ _ _ _ _ _
    c.args.self.now.ports.joiner.most c.args.self.now.ports.joiner.most _ c.requires.ready.number c.clock.ensures.setup
    refl (c.in_ok-give_due.ensures.plays sink)) (plays_at 1 1 _ _ _ _ _ _
    (calls c.args.self.now.caller) (λ (v : CallerState). v ≡ c.turn.new.self.caller) _ refl
    (c.give_due.ensures.setup ∙ c.clock.ensures.setup) (c.in_ok-turn.ensures.plays sink _))
    (polls_at 1 c.turn.new.self.ports.node _ _ _ _ _ _
    c.turn.new.self.ports.joiner.most c.args.self.now.ports.joiner.most (Some c.in_err-give_due-2.field-0.0)
    (ap (λ (p : Ports). p.node) c.turn.ensures.ports ∙ c.give_due.ensures.node ∙ c.requires.ready.number)
    (c.turn.ensures.setup ∙ c.give_due.ensures.setup ∙ c.clock.ensures.setup)
    (ap (λ (p : Ports). p.joiner.most) c.turn.ensures.ports ∙ c.give_due.ensures.most)
    (c.in_err-give_due-2.ensures.plays sink)))

pub returns-clause-plays : goal.returns-clause-plays
returns-clause-plays g c =
    λ sink. play_last 1 _ c.args.self.now.ports.joiner.most calls c.args.self.now.caller
    (λ (v : CallerState). v ≡ c.turn.new.self.caller) _ _ _ _ _ _ _ _ _ _ None
    (plays_at 1 c.args.self.now.ports.node _ _ _ _ _ _ clocks Anything _ c.requires.ready.number refl
    (c.in_ok-clock.ensures.plays sink)) (polls_at 1 c.args.self.now.ports.node _ _ _ _ _ _
    c.args.self.now.ports.joiner.most c.args.self.now.ports.joiner.most _ c.requires.ready.number c.clock.ensures.setup
    refl (c.in_ok-give_due.ensures.plays sink)) (plays_at 1 1 _ _ _ _ _ _
    (calls c.args.self.now.caller) (λ (v : CallerState). v ≡ c.turn.new.self.caller) _ refl
    (c.give_due.ensures.setup ∙ c.clock.ensures.setup) (c.in_ok-turn.ensures.plays sink _))
    (polls_at 1 c.turn.new.self.ports.node _ _ _ _ _ _
    c.turn.new.self.ports.joiner.most c.args.self.now.ports.joiner.most None
    (ap (λ (p : Ports). p.node) c.turn.ensures.ports ∙ c.give_due.ensures.node ∙ c.requires.ready.number)
    (c.turn.ensures.setup ∙ c.give_due.ensures.setup ∙ c.clock.ensures.setup)
    (ap (λ (p : Ports). p.joiner.most) c.turn.ensures.ports ∙ c.give_due.ensures.most)
    (c.in_ok-give_due-2.ensures.plays sink))
