use Rattle.rx_drive.specs.Tells.{Ways}
use Rattle.std.proofs.Common.{◌≡◌, ◌∙◌, Ok, Err, ap, false, refl, rules, subst, sym, true}
use Rattle.rx_dispatch.specs.Making.{Remembers}
use Rattle.rx_dispatch.specs.Rounds.{DispatcherState, turning_of}
use Rattle.rx_dispatch.specs.States.{state_of}
use Rattle.rx_dispatch.specs.Wanting.{IsWanting}
use Rattle.rx_jobs.specs.Dispatching.{accepts, dispatching, over}
use Rattle.rx_jobs.specs.Handlers.{Handlers, handlers_of}
use Rattle.rx_node.specs.Node.{setup_of}
use Rattle.rx_server.specs.Server.{Stands}
use Rattle.rx_drive.proofs.Calling.{over_by, served_by}
use Rattle.rx_drive.proofs.TurnLaws.{Gone, ends_call, gone_endless, gone_none, more_call, over_call}
use Rattle.rx_drive.proofs.turns.dispatch.Goals as goal

pub calls-init : goal.calls-init
calls-init g c =
    let old : DispatcherState = state_of c.args.dispatcher.now in
    let by : Handlers = handlers_of c.args.iface.now old.script in
    record {
      gone = λ h stands. subst (λ (s : DispatcherState). Gone (dispatching by) (IsWanting by) c.args.number
          (setup_of g.C.Class.class_of c.args.server.now.node) 0 (g.X.Outside.ways c.args.outside.now).line h
          (accepts old.round.jobs) (turning_of by s.round) (Stands g.C.Class.class_of c.args.server.now)
          (g.X.Outside.told c.args.outside.now) (g.X.Outside.told c.args.outside.now)) (sym c.begin.ensures)
          (gone_none (dispatching by) (IsWanting by) c.args.number _ _ h (accepts old.round.jobs) _ _ stands);
      remembered = subst (λ (s : DispatcherState). Remembers (handlers_of c.args.iface.now s.script) s.round)
          (sym c.begin.ensures) tt;
      script = ap (λ (s : DispatcherState). s.script) c.begin.ensures;
      setup = refl;
      ways = refl;
    }

pub returns-in_err-serve-clause-turned : goal.returns-in_err-serve-clause-turned
returns-in_err-serve-clause-turned g c =
    let by : Handlers = handlers_of c.args.iface.now (state_of c.args.dispatcher.now).script in
    λ h stands. ends_call (dispatching by) (IsWanting by) c.args.number _ _ h
    (accepts (state_of c.args.dispatcher.now).round.jobs)
    (turning_of by (state_of c.calls.dispatcher).round) c.calls.made
    _ _ _ (c.calls.invariant.gone h stands) _ _ (turning_of by (state_of c.serve.new.dispatcher).round)
    (Stands g.C.Class.class_of c.serve.new.server) _ _ c.calls.invariant.setup (ap (λ
    (w : Ways). w.line) c.calls.invariant.ways)
    c.in_err-serve.field-0.0 c.from_residual.result
    (served_by (handlers_of c.args.iface.now) _ _ _ _ _ c.args.number _ (state_of c.calls.dispatcher).round
    (state_of c.serve.new.dispatcher).round _ _ (Err c.in_err-serve.field-0.0) c.calls.invariant.script
    c.in_err-serve.ensures.calls) c.from_residual.ensures

pub returns-then-not-branch-clause-turned : goal.returns-then-not-branch-clause-turned
returns-then-not-branch-clause-turned g c =
    let off : c.in_ok-serve.field-0 ≡ false = search rules in
    let by : Handlers = handlers_of c.args.iface.now (state_of c.args.dispatcher.now).script in
    λ h stands. over_call (dispatching by) (IsWanting by) c.args.number _ _ h
    (accepts (state_of c.args.dispatcher.now).round.jobs)
    (turning_of by (state_of c.calls.dispatcher).round) c.calls.made
    _ _ _ (c.calls.invariant.gone h stands) _ _ (turning_of by (state_of c.serve.new.dispatcher).round)
    (Stands g.C.Class.class_of c.serve.new.server) _ c.calls.invariant.setup (ap (λ
    (w : Ways). w.line) c.calls.invariant.ways)
    c.in_ok-serve.field-0 off (over (state_of c.serve.new.dispatcher).round.jobs)
    (over_by (handlers_of c.args.iface.now) _ _ (state_of c.serve.new.dispatcher).round
    (state_of c.serve.new.dispatcher).round.jobs c.in_ok-serve.field-0 c.calls.invariant.script
    c.in_ok-serve.ensures.over)
    (served_by (handlers_of c.args.iface.now) _ _ _ _ _ c.args.number _ (state_of c.calls.dispatcher).round
    (state_of c.serve.new.dispatcher).round _ _ (Ok c.in_ok-serve.field-0) c.calls.invariant.script
    c.in_ok-serve.ensures.calls)

pub calls-preserved : goal.calls-preserved
calls-preserved g c =
    let on : c.in_ok-serve.field-0 ≡ true = search rules in
    let by : Handlers = handlers_of c.args.iface.now (state_of c.args.dispatcher.now).script in
    record {
      gone = λ h stands. more_call (dispatching by) (IsWanting by) c.args.number _ _ h
          (accepts (state_of c.args.dispatcher.now).round.jobs) (turning_of by (state_of c.calls.dispatcher).round)
          c.calls.made _ _ _ (c.calls.invariant.gone h stands) _ _
          (turning_of by (state_of c.serve.new.dispatcher).round) (Stands g.C.Class.class_of c.serve.new.server) _
          c.calls.invariant.setup (ap (λ (w : Ways). w.line) c.calls.invariant.ways) c.in_ok-serve.field-0 on
          (served_by (handlers_of c.args.iface.now) _ _ _ _ _ c.args.number _ (state_of c.calls.dispatcher).round
          (state_of c.serve.new.dispatcher).round _ _ (Ok c.in_ok-serve.field-0) c.calls.invariant.script
          c.in_ok-serve.ensures.calls);
      remembered = c.serve.ensures.remembered;
      script = c.serve.ensures.script ∙ c.calls.invariant.script;
      setup = c.serve.ensures.setup ∙ c.calls.invariant.setup;
      ways = c.serve.ensures.ways ∙ c.calls.invariant.ways;
    }

pub returns-clause-turned : goal.returns-clause-turned
returns-clause-turned g c =
    let by : Handlers = handlers_of c.args.iface.now (state_of c.args.dispatcher.now).script in
    λ h stands. gone_endless (dispatching by) (IsWanting by) c.args.number _ _ h
    (accepts (state_of c.args.dispatcher.now).round.jobs)
    (turning_of by (state_of c.calls.dispatcher).round) c.calls.made
    _ _ _ (c.calls.invariant.gone h stands) _ c.calls-test.false
