use Rattle.std.proofs.Common.{ap}
use Rattle.rx_drive.specs.Tells.{Ways}
use Rattle.std.proofs.Common.{◌≡◌, ◌∙◌, false, refl, rules, subst, sym, true}
use Rattle.rx_asks.specs.Asks.{begun, calling, is_done}
use Rattle.rx_asks.specs.View.{CallerState}
use Rattle.rx_asks.specs.declared.ask.TheConstants.{REPLY_BYTES}
use Rattle.rx_caller.specs.Turn.{CallerWants}
use Rattle.rx_node.specs.Node.{setup_of}
use Rattle.rx_node.specs.Steps.{StandsNode}
use Rattle.rx_drive.proofs.Calling.{done_ended}
use Rattle.rx_drive.proofs.TurnLaws.{Gone, ends_call, gone_endless, gone_none, more_call, over_call}
use Rattle.rx_drive.proofs.turns.call_turn.Goals as goal

pub calls-init : goal.calls-init
calls-init g c = record {
  gone = λ h stands. subst (λ (v : CallerState). Gone (calling REPLY_BYTES) (CallerWants REPLY_BYTES) c.args.number
      (setup_of g.C.Class.class_of c.args.client.now) 0 (g.X.Outside.ways c.args.outside.now).line h
      (begun c.args.caller.now) v
      (StandsNode g.C.Class.class_of c.args.client.now) (g.X.Outside.told c.args.outside.now)
      (g.X.Outside.told c.args.outside.now)) (sym c.begin.ensures)
      (gone_none (calling REPLY_BYTES) (CallerWants REPLY_BYTES) c.args.number _ _ h
      (begun c.args.caller.now) _ _ stands);
  done = λ is. subst (λ (v : CallerState). is_done v ≡ true) (sym c.begin.ensures) (done_ended c.args.caller.now is);
  setup = refl;
  ways = refl;
}

pub returns-in_err-call-clause-turned : goal.returns-in_err-call-clause-turned
returns-in_err-call-clause-turned g c =
    λ h stands. ends_call (calling REPLY_BYTES) (CallerWants REPLY_BYTES) c.args.number _ _ h (begun c.args.caller.now)
    c.calls.caller c.calls.made _ _ _ (c.calls.invariant.gone h stands) _ _ c.call.new.caller
    (StandsNode g.C.Class.class_of c.call.new.client) _ _ c.calls.invariant.setup (ap (λ
    (w : Ways). w.line) c.calls.invariant.ways)
    c.in_err-call.field-0.0 c.from_residual.result c.in_err-call.ensures.calls c.from_residual.ensures

pub returns-then-not-branch-clause-turned : goal.returns-then-not-branch-clause-turned
returns-then-not-branch-clause-turned g c =
    let off : c.in_ok-call.field-0 ≡ false = search rules in
    λ h stands. over_call (calling REPLY_BYTES) (CallerWants REPLY_BYTES) c.args.number _ _ h (begun c.args.caller.now)
    c.calls.caller c.calls.made _ _ _ (c.calls.invariant.gone h stands) _ _ c.call.new.caller
    (StandsNode g.C.Class.class_of c.call.new.client) _ c.calls.invariant.setup (ap (λ
    (w : Ways). w.line) c.calls.invariant.ways)
    c.in_ok-call.field-0 off c.call.new.caller (λ is. refl) c.in_ok-call.ensures.calls

pub calls-preserved : goal.calls-preserved
calls-preserved g c =
    let on : c.in_ok-call.field-0 ≡ true = search rules in
    record {
      gone = λ h stands. more_call (calling REPLY_BYTES) (CallerWants REPLY_BYTES) c.args.number _ _ h
          (begun c.args.caller.now) c.calls.caller c.calls.made _ _ _ (c.calls.invariant.gone h stands) _ _
          c.call.new.caller (StandsNode g.C.Class.class_of c.call.new.client) _ c.calls.invariant.setup
          (ap (λ (w : Ways). w.line) c.calls.invariant.ways) c.in_ok-call.field-0 on c.in_ok-call.ensures.calls;
      done = λ is. c.call.ensures.done (c.calls.invariant.done is);
      setup = c.call.ensures.setup ∙ c.calls.invariant.setup;
      ways = c.call.ensures.ways ∙ c.calls.invariant.ways;
    }

pub returns-clause-turned : goal.returns-clause-turned
returns-clause-turned g c =
    λ h stands. gone_endless (calling REPLY_BYTES) (CallerWants REPLY_BYTES) c.args.number _ _ h
    (begun c.args.caller.now)
    c.calls.caller c.calls.made _ _ _ (c.calls.invariant.gone h stands) _ c.calls-test.false
