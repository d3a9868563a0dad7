use Rattle.std.proofs.Common.{◌≡◌, ◌∙◌, ◌<◌, ◌≤◌, ℕ, List, [], Some, None, refl, rules, subst, sym}
use Rattle.std.proofs.Math.Numerals.{suc-eq-add-one}
use Rattle.rx_jobs.specs.Jobs.{JobState}
use Rattle.rx_dispatch.specs.States.{state_of}
use Rattle.rx_node.specs.Node.{setup_of}
use Rattle.rx_rules.specs.Setup.{Setup}
use Rattle.rx_server.specs.Server.{Stands}
use Rattle.rx_wire_loop.specs.Runs.{IsBehind}
use Rattle.rx_wire_loop.specs.Tells.{sink_tells, told, wire_tells}
use Rattle.rx_wire_loop.proofs.Passing.{legal_as, pass_at, play_at, serving_spent, serving_stopped}
use Rattle.rx_wire_loop.proofs.Passing.{serving_stopped_last}
use Rattle.rx_wire_loop.proofs.Passing.{serving_up, SoFar, serving_up_failed, so_more, so_none, terms_by}
use Rattle.rx_wire_loop.proofs.Running.{behind_at, is_stopped}
use Rattle.rx_wire_loop.proofs.serving.ServedNode.passes.Goals as goal

pub pass-requires-clause-behind : goal.pass-requires-clause-behind
pass-requires-clause-behind g c =
    subst (λ (s : Setup). IsBehind s (Stands g.C.Class.class_of c.loop-taken.self.server)
    (g.W.Wire.moment c.loop-taken.wire)) (sym c.loop-taken.invariant.setup)
    (behind_at (setup_of g.C.Class.class_of c.args.self.now.server.node) _ _ _ c.loop-taken.invariant.so.at)

pub play-requires-clause-behind : goal.play-requires-clause-behind
play-requires-clause-behind g c =
    subst (λ (s : Setup). IsBehind s (Stands g.C.Class.class_of c.loop-taken.self.server)
    (g.W.Wire.moment c.loop-taken.wire)) (sym c.loop-taken.invariant.setup)
    (behind_at (setup_of g.C.Class.class_of c.args.self.now.server.node) _ _ _ c.loop-taken.invariant.so.at)

pub loop-taken-init : goal.loop-taken-init
loop-taken-init g c = record {
  so = subst (λ (js : List JobState). SoFar (terms_by c.args.iface.now (state_of c.args.self.now.dispatcher).script
      (setup_of g.C.Class.class_of c.args.self.now.server.node) c.args.self.now.ports.joiner.most c.args.turns
      c.args.end) (record { history = []; now = g.W.Wire.moment c.args.wire.now }) 0 js
      (Stands g.C.Class.class_of c.args.self.now.server) (told (g.J.Journal.told c.args.book.now)
      (sink_tells (g.O.Sink.told c.args.out.now) (g.O.Sink.faults c.args.out.now))
      (wire_tells (g.W.Wire.told c.args.wire.now) (g.W.Wire.faults c.args.wire.now) (g.W.Wire.moment c.args.wire.now)))
      (told (g.J.Journal.told c.args.book.now) (sink_tells (g.O.Sink.told c.args.out.now)
      (g.O.Sink.faults c.args.out.now)) (wire_tells (g.W.Wire.told c.args.wire.now) (g.W.Wire.faults c.args.wire.now)
      (g.W.Wire.moment c.args.wire.now)))) (sym c.requires.jobs) (so_none _ (record
      { history = []; now = g.W.Wire.moment c.args.wire.now }) _ _ (record {
        standing = c.requires.stands;
        now = refl;
        later = search rules;
      }));
  ready = c.requires.ready;
  most = refl;
  script = refl;
  setup = refl;
}

pub returns-in_err-pass-clause-serves : goal.returns-in_err-pass-clause-serves
returns-in_err-pass-clause-serves g c =
    let low : c.loop-taken.taken < c.args.turns = search rules in
    rw (is_stopped c.from_residual.result c.in_err-pass.field-0.0 c.from_residual.ensures.1)
    (serving_stopped _ (record { history = []; now = g.W.Wire.moment c.args.wire.now }) c.loop-taken.taken
    (state_of c.loop-taken.self.dispatcher).round.jobs (state_of c.pass.new.self.dispatcher).round.jobs _ _ _ _ _
    c.loop-taken.invariant.so (λ (js : List JobState). js ≡ (state_of c.pass.new.self.dispatcher).round.jobs)
    c.in_err-pass.field-0.0 (pass_at c.args.iface.now (state_of c.loop-taken.self.dispatcher).script
    (state_of c.args.self.now.dispatcher).script _ _ c.loop-taken.self.ports.joiner.most
    c.args.self.now.ports.joiner.most c.args.end (state_of c.loop-taken.self.dispatcher).round.jobs _ _ _ _
    (λ (js : List JobState). js ≡ (state_of c.pass.new.self.dispatcher).round.jobs) (Some c.in_err-pass.field-0.0)
    c.loop-taken.invariant.script c.loop-taken.invariant.setup c.loop-taken.invariant.most c.in_err-pass.ensures.plays)
    low (legal_as _ _ _ c.loop-taken.invariant.setup (λ h is. is.legal)))

pub returns-in_err-put_time_up-clause-serves : goal.returns-in_err-put_time_up-clause-serves
returns-in_err-put_time_up-clause-serves g c =
    let low : c.loop-taken.taken < c.args.turns = search rules in
    let late : c.args.end ≤ g.W.Wire.moment c.pass.new.wire = search rules in
    rw (is_stopped c.from_residual-in_err-put_time_up.result c.in_err-put_time_up.field-0.0
    c.from_residual-in_err-put_time_up.ensures.1) (serving_up_failed _ (record {
      history = [];
      now = g.W.Wire.moment
          c.args.wire.now;
    }) c.loop-taken.taken (state_of c.loop-taken.self.dispatcher).round.jobs
    (state_of c.pass.new.self.dispatcher).round.jobs _ _ _ _ _ c.loop-taken.invariant.so
    (pass_at c.args.iface.now (state_of c.loop-taken.self.dispatcher).script (state_of
    c.args.self.now.dispatcher).script _ _ c.loop-taken.self.ports.joiner.most c.args.self.now.ports.joiner.most
    c.args.end (state_of c.loop-taken.self.dispatcher).round.jobs _ _ _ _ (λ (js : List JobState). js ≡
    (state_of c.pass.new.self.dispatcher).round.jobs) None c.loop-taken.invariant.script c.loop-taken.invariant.setup
    c.loop-taken.invariant.most c.in_ok-pass.ensures.plays) low late
    (legal_as _ _ _ c.loop-taken.invariant.setup (λ h is. is.legal)) _ c.in_err-put_time_up.field-0.0
    c.in_err-put_time_up.ensures)

pub returns-then-end-now-clause-serves : goal.returns-then-end-now-clause-serves
returns-then-end-now-clause-serves g c =
    let low : c.loop-taken.taken < c.args.turns = search rules in
    let late : c.args.end ≤ g.W.Wire.moment c.pass.new.wire = search rules in
    serving_up _ (record { history = []; now = g.W.Wire.moment c.args.wire.now }) c.loop-taken.taken
    (state_of c.loop-taken.self.dispatcher).round.jobs (state_of c.pass.new.self.dispatcher).round.jobs _ _ _ _ _
    c.loop-taken.invariant.so (pass_at c.args.iface.now (state_of c.loop-taken.self.dispatcher).script
    (state_of c.args.self.now.dispatcher).script _ _ c.loop-taken.self.ports.joiner.most
    c.args.self.now.ports.joiner.most c.args.end (state_of c.loop-taken.self.dispatcher).round.jobs _ _ _ _
    (λ (js : List JobState). js ≡ (state_of c.pass.new.self.dispatcher).round.jobs) None c.loop-taken.invariant.script
    c.loop-taken.invariant.setup c.loop-taken.invariant.most c.in_ok-pass.ensures.plays) low late
    (legal_as _ _ _ c.loop-taken.invariant.setup (λ h is. is.legal)) _
    c.in_ok-put_time_up.ensures

pub loop-taken-preserved : goal.loop-taken-preserved
loop-taken-preserved g c =
    let early : g.W.Wire.moment c.pass.new.wire < c.args.end = search rules in
    record {
      so = subst (λ (k : ℕ). SoFar (terms_by c.args.iface.now (state_of c.args.self.now.dispatcher).script
          (setup_of g.C.Class.class_of c.args.self.now.server.node) c.args.self.now.ports.joiner.most c.args.turns
          c.args.end) (record { history = []; now = g.W.Wire.moment c.args.wire.now }) k
          (state_of c.pass.new.self.dispatcher).round.jobs (Stands g.C.Class.class_of c.pass.new.self.server)
          (told (g.J.Journal.told c.args.book.now) (sink_tells (g.O.Sink.told c.args.out.now)
          (g.O.Sink.faults c.args.out.now)) (wire_tells (g.W.Wire.told c.args.wire.now)
          (g.W.Wire.faults c.args.wire.now) (g.W.Wire.moment c.args.wire.now))) (told (g.J.Journal.told c.pass.new.book)
          (sink_tells (g.O.Sink.told c.pass.new.out) (g.O.Sink.faults c.pass.new.out))
          (wire_tells (g.W.Wire.told c.pass.new.wire) (g.W.Wire.faults c.pass.new.wire)
          (g.W.Wire.moment c.pass.new.wire)))) (suc-eq-add-one c.loop-taken.taken)
          (so_more _ (record { history = []; now = g.W.Wire.moment c.args.wire.now }) c.loop-taken.taken
          (state_of c.loop-taken.self.dispatcher).round.jobs (state_of c.pass.new.self.dispatcher).round.jobs _ _ _ _ _
          c.loop-taken.invariant.so (pass_at c.args.iface.now (state_of c.loop-taken.self.dispatcher).script
          (state_of c.args.self.now.dispatcher).script (setup_of g.C.Class.class_of c.args.self.now.server.node)
          (setup_of g.C.Class.class_of c.loop-taken.self.server.node) c.loop-taken.self.ports.joiner.most
          c.args.self.now.ports.joiner.most c.args.end (state_of c.loop-taken.self.dispatcher).round.jobs _ _ _ _
          (λ (js : List JobState). js ≡ (state_of c.pass.new.self.dispatcher).round.jobs) None
          c.loop-taken.invariant.script c.loop-taken.invariant.setup c.loop-taken.invariant.most
          c.in_ok-pass.ensures.plays) early);
      ready = search rules;
      most = search rules;
      script = c.pass.ensures.script ∙ c.loop-taken.invariant.script;
      setup = c.pass.ensures.setup ∙ c.loop-taken.invariant.setup;
    }

pub returns-in_err-play-clause-serves : goal.returns-in_err-play-clause-serves
returns-in_err-play-clause-serves g c =
    let all : c.loop-taken.taken ≡ c.args.turns = search rules in
    rw (is_stopped c.from_residual-in_err-play.result c.in_err-play.field-0.0 c.from_residual-in_err-play.ensures.1)
    (serving_stopped_last _ (record { history = []; now = g.W.Wire.moment c.args.wire.now }) c.loop-taken.taken
    (state_of c.loop-taken.self.dispatcher).round.jobs (state_of c.play.new.self.dispatcher).round.jobs _ _ _ _ _
    c.loop-taken.invariant.so (λ (js : List JobState). js ≡ (state_of c.play.new.self.dispatcher).round.jobs)
    c.in_err-play.field-0.0 (play_at c.args.iface.now (state_of c.loop-taken.self.dispatcher).script
    (state_of c.args.self.now.dispatcher).script _ _ c.loop-taken.self.ports.joiner.most
    c.args.self.now.ports.joiner.most (state_of c.loop-taken.self.dispatcher).round.jobs _ _ _ _
    (λ (js : List JobState). js ≡ (state_of c.play.new.self.dispatcher).round.jobs) (Some c.in_err-play.field-0.0)
    c.loop-taken.invariant.script c.loop-taken.invariant.setup c.loop-taken.invariant.most c.in_err-play.ensures.plays)
    all (legal_as _ _ _ c.loop-taken.invariant.setup (λ h is. is.legal)))

pub returns-clause-serves : goal.returns-clause-serves
returns-clause-serves g c =
    let all : c.loop-taken.taken ≡ c.args.turns = search rules in
    serving_spent _ (record { history = []; now = g.W.Wire.moment c.args.wire.now }) c.loop-taken.taken
    (state_of c.loop-taken.self.dispatcher).round.jobs (state_of c.play.new.self.dispatcher).round.jobs _ _ _ _ _
    c.loop-taken.invariant.so (play_at c.args.iface.now (state_of c.loop-taken.self.dispatcher).script
    (state_of c.args.self.now.dispatcher).script _ _ c.loop-taken.self.ports.joiner.most
    c.args.self.now.ports.joiner.most (state_of c.loop-taken.self.dispatcher).round.jobs _ _ _ _
    (λ (js : List JobState). js ≡ (state_of c.play.new.self.dispatcher).round.jobs) None c.loop-taken.invariant.script
    c.loop-taken.invariant.setup c.loop-taken.invariant.most c.in_ok-play.ensures.plays) all
    (legal_as _ _ _ c.loop-taken.invariant.setup (λ h is. is.legal))
