use Rattle.std.proofs.Common.{◌≡◌, ◌∙◌, ◌<◌, ◌≤◌, ℕ, suc, true, false, Some, None, refl, rules, ap, sym, subst}
use Rattle.std.proofs.Math.Numerals.{suc-eq-add-one}
use Rattle.std.specs.Prelude.{is_some}
use Rattle.rx_asks.specs.View.{CallerState}
use Rattle.rx_node.specs.Node.{setup_of}
use Rattle.rx_node.specs.Steps.{StandsNode}
use Rattle.rx_rules.specs.Setup.{Setup}
use Rattle.rx_wire_loop.specs.Calls.{calls}
use Rattle.rx_wire_loop.specs.Ports.{AreReady, takes}
use Rattle.rx_wire_loop.specs.Runs.{IsBehind}
use Rattle.rx_wire_loop.specs.Serves.{plays}
use Rattle.rx_wire_loop.specs.Tells.{SinkTells, sink_tells, told, wire_tells}
use Rattle.rx_wire_loop.specs.declared.ports.Ports.{Ports}
use Rattle.rx_wire_loop.proofs.Callings.{CallSoFar, at_any, call_ended, call_more, call_pass_at, call_play_at}
use Rattle.rx_wire_loop.proofs.Callings.{call_so_none}
use Rattle.rx_wire_loop.proofs.Callings.{call_spent, call_stopped, call_stopped_last, call_terms_by, none_of}
use Rattle.rx_wire_loop.proofs.Passing.{legal_as, pass_early, pass_take, takes_at}
use Rattle.rx_wire_loop.proofs.Running.{behind_at, behind_made, is_stopped, place_of}
use Rattle.rx_wire_loop.proofs.calling.CallingNode.passes.Goals as goal

pub play-requires-clause-behind : goal.play-requires-clause-behind
play-requires-clause-behind g c =
    subst (λ (s : Setup). IsBehind s (StandsNode g.C.Class.class_of c.loop-taken.self.client)
    (g.W.Wire.moment c.loop-taken.wire)) (sym c.loop-taken.invariant.setup)
    (behind_at (setup_of g.C.Class.class_of c.args.self.client) _ _ _ (c.loop-taken.invariant.so (sink_tells None 0)
    (record { history = c.requires.behind.0; now = g.W.Wire.moment c.args.wire.now })
    (place_of (setup_of g.C.Class.class_of c.args.self.client) (StandsNode g.C.Class.class_of c.args.self.client) _
    c.requires.behind.0 c.requires.behind.1 c.requires.behind.2)).at)

pub take-requires-clause-behind : goal.take-requires-clause-behind
take-requires-clause-behind g c =
    behind_made 1 (setup_of g.C.Class.class_of c.loop-taken.self.client)
    (setup_of g.C.Class.class_of c.play.new.self.client) _ _ _ _
    (plays c.loop-taken.self.ports.joiner.most calls c.loop-taken.self.caller)
    (λ (u : CallerState). u ≡ c.play.new.self.caller) c.play.ensures.setup
    (subst (λ (s : Setup). IsBehind s (StandsNode g.C.Class.class_of c.loop-taken.self.client)
    (g.W.Wire.moment c.loop-taken.wire)) (sym c.loop-taken.invariant.setup)
    (behind_at (setup_of g.C.Class.class_of c.args.self.client) _ _ _ (c.loop-taken.invariant.so (sink_tells None 0)
    (record { history = c.requires.behind.0; now = g.W.Wire.moment c.args.wire.now })
    (place_of (setup_of g.C.Class.class_of c.args.self.client) (StandsNode g.C.Class.class_of c.args.self.client) _
    c.requires.behind.0 c.requires.behind.1 c.requires.behind.2)).at))
    (c.in_ok-play.ensures.plays (sink_tells None 0))

pub play-requires-2-clause-behind : goal.play-requires-2-clause-behind
play-requires-2-clause-behind g c =
    subst (λ (s : Setup). IsBehind s (StandsNode g.C.Class.class_of c.loop-taken.self.client)
    (g.W.Wire.moment c.loop-taken.wire)) (sym c.loop-taken.invariant.setup)
    (behind_at (setup_of g.C.Class.class_of c.args.self.client) _ _ _ (c.loop-taken.invariant.so (sink_tells None 0)
    (record { history = c.requires.behind.0; now = g.W.Wire.moment c.args.wire.now })
    (place_of (setup_of g.C.Class.class_of c.args.self.client) (StandsNode g.C.Class.class_of c.args.self.client) _
    c.requires.behind.0 c.requires.behind.1 c.requires.behind.2)).at)

pub loop-taken-init : goal.loop-taken-init
loop-taken-init g c = record {
  so = λ sink p at. call_so_none _
      c.args.self.caller p _ _ at;
  ready = c.requires.ready;
  most = refl;
  setup = refl;
  unended = c.requires.unended;
}

pub returns-in_err-play-clause-calls : goal.returns-in_err-play-clause-calls
returns-in_err-play-clause-calls g c =
    let low : c.loop-taken.taken < c.args.turns = search rules in
    λ sink p at. rw (is_stopped c.from_residual.result c.in_err-play.field-0.0 c.from_residual.ensures.1)
    (call_stopped _ c.args.self.caller p c.loop-taken.taken c.loop-taken.self.caller _ _ _ _ _ _ _ _
    (λ (k : SinkTells). c.loop-taken.invariant.so k p (at_any (setup_of g.C.Class.class_of c.args.self.client)
    (StandsNode g.C.Class.class_of c.args.self.client) _ _ sink k p at)) (λ (u : CallerState). u ≡
    c.play.new.self.caller) c.in_err-play.field-0.0 (λ (k : SinkTells). (call_pass_at
    (setup_of g.C.Class.class_of c.args.self.client) (setup_of g.C.Class.class_of c.loop-taken.self.client)
    c.loop-taken.self.ports.joiner.most c.args.self.ports.joiner.most c.loop-taken.self.caller
    (StandsNode g.C.Class.class_of c.loop-taken.self.client) (StandsNode g.C.Class.class_of c.play.new.self.client) _ _
    (λ (u : CallerState). u ≡ c.play.new.self.caller) (Some c.in_err-play.field-0.0) c.loop-taken.invariant.setup
    c.loop-taken.invariant.most (pass_early 1 (setup_of g.C.Class.class_of c.loop-taken.self.client)
    (plays c.loop-taken.self.ports.joiner.most calls) (takes (setup_of g.C.Class.class_of c.loop-taken.self.client)
    None) c.loop-taken.self.caller (λ (u : CallerState). u ≡ c.play.new.self.caller)
    (StandsNode g.C.Class.class_of c.loop-taken.self.client) (StandsNode g.C.Class.class_of c.play.new.self.client) _ _
    c.in_err-play.field-0.0 (c.in_err-play.ensures.plays k)))) low (legal_as (setup_of g.C.Class.class_of
    c.args.self.client) (setup_of g.C.Class.class_of c.loop-taken.self.client) _ c.loop-taken.invariant.setup
    (λ h is. is.legal)) sink)

pub returns-then-branch-clause-calls : goal.returns-then-branch-clause-calls
returns-then-branch-clause-calls g c =
    let low : c.loop-taken.taken ≤ c.args.turns = search rules in
    let done : is_some c.play.new.self.caller.end ≡ true = search rules in
    λ sink p at. call_ended _ c.args.self.caller p c.loop-taken.taken c.loop-taken.self.caller _ _ _ _ _ _ _ _
    (λ (k : SinkTells). c.loop-taken.invariant.so k p (at_any _ _ _ _ sink k p at)) c.play.new.self.caller sink
    (call_play_at _ _ c.loop-taken.self.ports.joiner.most c.args.self.ports.joiner.most c.loop-taken.self.caller _ _ _ _
    (λ (u : CallerState). u ≡ c.play.new.self.caller) None c.loop-taken.invariant.setup c.loop-taken.invariant.most
    (c.in_ok-play.ensures.plays sink)) low done (legal_as _ _ _ c.loop-taken.invariant.setup (λ h is. is.legal))

pub returns-in_err-take-clause-calls : goal.returns-in_err-take-clause-calls
returns-in_err-take-clause-calls g c =
    let low : c.loop-taken.taken < c.args.turns = search rules in
    λ sink p at. rw (is_stopped c.from_residual-in_err-take.result c.in_err-take.field-0.0
    c.from_residual-in_err-take.ensures.1) (call_stopped _ c.args.self.caller p c.loop-taken.taken
    c.loop-taken.self.caller _ _ _ _ _ _ _ _ (λ (k : SinkTells). c.loop-taken.invariant.so k p
    (at_any (setup_of g.C.Class.class_of c.args.self.client) (StandsNode g.C.Class.class_of c.args.self.client) _ _ sink
    k p at)) (λ (u : CallerState). u ≡ c.play.new.self.caller) c.in_err-take.field-0.0
    (λ (k : SinkTells). (call_pass_at (setup_of g.C.Class.class_of c.args.self.client)
    (setup_of g.C.Class.class_of c.loop-taken.self.client) c.loop-taken.self.ports.joiner.most
    c.args.self.ports.joiner.most c.loop-taken.self.caller (StandsNode g.C.Class.class_of c.loop-taken.self.client)
    (StandsNode g.C.Class.class_of c.take.new.self.client) _ _ (λ (u : CallerState). u ≡ c.play.new.self.caller)
    (Some c.in_err-take.field-0.0) c.loop-taken.invariant.setup c.loop-taken.invariant.most
    (pass_take 1 (setup_of g.C.Class.class_of c.loop-taken.self.client) (plays c.loop-taken.self.ports.joiner.most
    calls) (takes (setup_of g.C.Class.class_of c.loop-taken.self.client) None) c.loop-taken.self.caller
    (λ (u : CallerState). u ≡ c.play.new.self.caller) (StandsNode g.C.Class.class_of c.loop-taken.self.client)
    (StandsNode g.C.Class.class_of c.play.new.self.client) (StandsNode g.C.Class.class_of c.take.new.self.client) _ _ _
    (Some c.in_err-take.field-0.0) (c.in_ok-play.ensures.plays k) (takes_at 1 (setup_of g.C.Class.class_of
    c.loop-taken.self.client) (setup_of g.C.Class.class_of c.play.new.self.client)
    (StandsNode g.C.Class.class_of c.play.new.self.client) (StandsNode g.C.Class.class_of c.take.new.self.client) _ _
    None (Some c.in_err-take.field-0.0) c.play.ensures.setup (c.in_err-take.ensures.plays k))))) low
    (legal_as (setup_of g.C.Class.class_of c.args.self.client) (setup_of g.C.Class.class_of c.loop-taken.self.client) _
    c.loop-taken.invariant.setup (λ h is. is.legal)) sink)

pub loop-taken-preserved : goal.loop-taken-preserved
loop-taken-preserved g c =
    let done : is_some c.play.new.self.caller.end ≡ false = search rules in
    let left : c.play.new.self.caller.end ≡ None = none_of c.play.new.self.caller.end done in
    record {
      so = λ sink p at. subst (λ (n : ℕ). CallSoFar (call_terms_by (setup_of g.C.Class.class_of c.args.self.client)
          c.args.self.ports.joiner.most c.args.turns)
          c.args.self.caller p n c.take.new.self.caller (StandsNode g.C.Class.class_of c.take.new.self.client)
          (told (g.J.Journal.told c.args.book.now) sink (wire_tells (g.W.Wire.told c.args.wire.now)
          (g.W.Wire.faults c.args.wire.now) (g.W.Wire.moment c.args.wire.now))) (told (g.J.Journal.told c.take.new.book)
          sink (wire_tells (g.W.Wire.told c.take.new.wire) (g.W.Wire.faults c.take.new.wire)
          (g.W.Wire.moment c.take.new.wire)))) (suc-eq-add-one c.loop-taken.taken)
          (subst (λ (u : CallerState). CallSoFar (call_terms_by (setup_of g.C.Class.class_of c.args.self.client)
          c.args.self.ports.joiner.most c.args.turns) c.args.self.caller p (suc c.loop-taken.taken) u
          (StandsNode g.C.Class.class_of c.take.new.self.client) (told (g.J.Journal.told c.args.book.now) sink
          (wire_tells (g.W.Wire.told c.args.wire.now) (g.W.Wire.faults c.args.wire.now)
          (g.W.Wire.moment c.args.wire.now))) (told (g.J.Journal.told c.take.new.book) sink
          (wire_tells (g.W.Wire.told c.take.new.wire) (g.W.Wire.faults c.take.new.wire)
          (g.W.Wire.moment c.take.new.wire)))) (sym c.take.ensures.caller) (call_more _ c.args.self.caller p
          c.loop-taken.taken c.loop-taken.self.caller _ _ _ _ _ _ _ _ (λ (k : SinkTells). c.loop-taken.invariant.so k p
          (at_any (setup_of g.C.Class.class_of c.args.self.client) (StandsNode g.C.Class.class_of c.args.self.client) _
          _ sink k p at)) c.play.new.self.caller sink (let k : SinkTells = sink in
          (call_pass_at (setup_of g.C.Class.class_of c.args.self.client) (setup_of g.C.Class.class_of
          c.loop-taken.self.client) c.loop-taken.self.ports.joiner.most c.args.self.ports.joiner.most
          c.loop-taken.self.caller _ _ _ _ (λ (u : CallerState). u ≡ c.play.new.self.caller) None
          c.loop-taken.invariant.setup c.loop-taken.invariant.most (pass_take 1 (setup_of g.C.Class.class_of
          c.loop-taken.self.client) (plays c.loop-taken.self.ports.joiner.most calls)
          (takes (setup_of g.C.Class.class_of c.loop-taken.self.client) None) c.loop-taken.self.caller
          (λ (u : CallerState). u ≡ c.play.new.self.caller) _ _ _ _ _ _ None (c.in_ok-play.ensures.plays k)
          (takes_at 1 (setup_of g.C.Class.class_of c.loop-taken.self.client) (setup_of g.C.Class.class_of
          c.play.new.self.client) _ _ _ _ None None c.play.ensures.setup (c.in_ok-take.ensures.plays k))))) left));
      ready = subst (λ (q : Ports). AreReady 1 q.joiner.most q) (sym c.take.ensures.ports) (record {
        number = c.in_ok-play.ensures.ready.number;
        most_is = refl;
        empty = c.in_ok-play.ensures.ready.empty;
      });
      most = ap (λ (q : Ports). q.joiner.most) c.take.ensures.ports ∙ c.in_ok-play.ensures.ready.most_is
          ∙ c.loop-taken.invariant.most;
      setup = c.take.ensures.setup ∙ c.play.ensures.setup ∙ c.loop-taken.invariant.setup;
      unended = ap (λ (u : CallerState). u.end) c.take.ensures.caller ∙ left;
    }

pub returns-in_err-play-2-clause-calls : goal.returns-in_err-play-2-clause-calls
returns-in_err-play-2-clause-calls g c =
    let all : c.loop-taken.taken ≡ c.args.turns = search rules in
    λ sink p at. rw (is_stopped c.from_residual-in_err-play-2.result c.in_err-play-2.field-0.0
    c.from_residual-in_err-play-2.ensures.1) (call_stopped_last _ c.args.self.caller p c.loop-taken.taken
    c.loop-taken.self.caller _ _ _ _ _ _ _ _ (λ (k : SinkTells). c.loop-taken.invariant.so k p
    (at_any _ _ _ _ sink k p at)) (λ (u : CallerState). u ≡ c.play-2.new.self.caller) c.in_err-play-2.field-0.0
    (λ (k : SinkTells). (call_play_at _ _ c.loop-taken.self.ports.joiner.most c.args.self.ports.joiner.most
    c.loop-taken.self.caller _ _ _ _ (λ (u : CallerState). u ≡ c.play-2.new.self.caller)
    (Some c.in_err-play-2.field-0.0) c.loop-taken.invariant.setup c.loop-taken.invariant.most
    (c.in_err-play-2.ensures.plays k))) all (legal_as _ _ _ c.loop-taken.invariant.setup (λ h is. is.legal)) sink)

pub returns-then-branch-2-clause-calls : goal.returns-then-branch-2-clause-calls
returns-then-branch-2-clause-calls g c =
    let low : c.loop-taken.taken ≤ c.args.turns = search rules in
    let done : is_some c.play-2.new.self.caller.end ≡ true = search rules in
    λ sink p at. call_ended _ c.args.self.caller p c.loop-taken.taken c.loop-taken.self.caller _ _ _ _ _ _ _ _
    (λ (k : SinkTells). c.loop-taken.invariant.so k p (at_any _ _ _ _ sink k p at)) c.play-2.new.self.caller sink
    (call_play_at _ _ c.loop-taken.self.ports.joiner.most c.args.self.ports.joiner.most c.loop-taken.self.caller _ _ _ _
    (λ (u : CallerState). u ≡ c.play-2.new.self.caller) None c.loop-taken.invariant.setup c.loop-taken.invariant.most
    (c.in_ok-play-2.ensures.plays sink)) low done (legal_as _ _ _ c.loop-taken.invariant.setup (λ h is. is.legal))

pub returns-clause-calls : goal.returns-clause-calls
returns-clause-calls g c =
    let all : c.loop-taken.taken ≡ c.args.turns = search rules in
    let done : is_some c.play-2.new.self.caller.end ≡ false = search rules in
    λ sink p at. call_spent _ c.args.self.caller p c.loop-taken.taken c.loop-taken.self.caller _ _ _ _ _ _ _ _
    (λ (k : SinkTells). c.loop-taken.invariant.so k p (at_any _ _ _ _ sink k p at)) c.play-2.new.self.caller sink
    (call_play_at _ _ c.loop-taken.self.ports.joiner.most c.args.self.ports.joiner.most c.loop-taken.self.caller _ _ _ _
    (λ (u : CallerState). u ≡ c.play-2.new.self.caller) None c.loop-taken.invariant.setup c.loop-taken.invariant.most
    (c.in_ok-play-2.ensures.plays sink)) all (none_of c.play-2.new.self.caller.end done)
    (legal_as _ _ _ c.loop-taken.invariant.setup (λ h is. is.legal))
