-- The turn was driven on the server.
use Rattle.std.proofs.Common.{ap, get_or, refl, sym}
use Rattle.rx_dispatch.specs.States.{state_of}
use Rattle.rx_dispatch.specs.Wanting.{IsWanting}
use Rattle.rx_drive.specs.Tells.{Ways}
use Rattle.rx_jobs.specs.Dispatching.{accepts, dispatching, over}
use Rattle.rx_jobs.specs.Handlers.{Handlers, handlers_of}
use Rattle.rx_stage.specs.Ran.{stop_of}
use Rattle.rx_stage.proofs.Driving.{turn_driven}
use Rattle.rx_stage.proofs.Lending.{server_lent}
use Rattle.rx_stage.proofs.Polling.{told_seen, turn_seen}
use Rattle.rx_stage.proofs.turns.dispatch_on.Goals as goal

pub returns-clause-plays : goal.returns-clause-plays
returns-clause-plays g c =
    let by : Handlers = handlers_of c.args.iface.now (state_of c.args.dispatcher.now).script in
    let book = c.book-1.given.1 (sym (ap (λ (w : Ways). get_or w.names 2 0) c.dispatch.ensures.ways)) in
    let out = c.out-1.given.1 (sym (ap (λ (w : Ways). get_or w.names 1 0) c.dispatch.ensures.ways)) in
    turn_seen (dispatching by) 0 (accepts (state_of c.args.dispatcher.now).round.jobs)
    (over (state_of c.dispatch.new.dispatcher).round.jobs) c.args.nodes.now _ _ (stop_of c.plan_end.result) _ _ _ refl
    (told_seen g.J.Journal.told g.O.Sink.told g.O.Sink.faults _ _ _ _ book out)
    (turn_driven (dispatching by) (IsWanting by) c.args.nodes.now _ 0 _ _ _
    (accepts (state_of c.args.dispatcher.now).round.jobs) (over (state_of c.dispatch.new.dispatcher).round.jobs) _
    (stop_of c.plan_end.result) _ _ c.plan_end.ensures
    (server_lent c.args.nodes.now 0 c.server_mut.result.now c.dispatch.new.server refl c.server_mut.ensures.value
    c.dispatch.ensures.setup) c.dispatch.ensures.turned)
