use Rattle.std.proofs.Common.{◌∙◌}
use Rattle.rx_jobs.specs.Handlers.{handlers_of}
use Rattle.rx_stage.specs.Shown.{script_of}
use Rattle.rx_stage.specs.contracts.world.World.{the_view}
use Rattle.rx_stage.proofs.RoundsBy.{round_by}
use Rattle.rx_stage.proofs.RoundsMade.{onward_all, onward_more, onward_over, onward_stops}
use Rattle.rx_stage.proofs.world.World.rounds.Goals as goal

pub returns-then-not-any_lives-clause-plays : goal.returns-then-not-any_lives-clause-plays
returns-then-not-any_lives-clause-plays g c =
    onward_over (handlers_of c.args.iface.now (script_of c.args.self.now)) c.args.count c.loop-made.made
    (the_view c.self-in-loop-made.inside) c.args.self.now c.loop-made.self c.any_lives.result _ _
    c.self-in-loop-made.view_is c.any_lives.ensures c.if-not-any_lives.true c.loop-made.invariant.onward

pub returns-in_err-round-clause-plays : goal.returns-in_err-round-clause-plays
returns-in_err-round-clause-plays g c =
    onward_stops (handlers_of c.args.iface.now (script_of c.args.self.now)) c.args.count c.loop-made.made
    (the_view c.self-in-loop-made.inside) c.args.self.now c.loop-made.self c.round.new.self _ c.any_lives.result
    c.from_residual.result c.in_err-round.field-0.0 _ _ _ c.loop-made-test.true c.self-in-loop-made.view_is
    c.any_lives.ensures c.if-not-any_lives.false
    (round_by (handlers_of c.args.iface.now) (script_of c.loop-made.self) (script_of c.args.self.now) _ _ _ _ _
    c.loop-made.invariant.script c.in_err-round.ensures.plays) c.from_residual.ensures c.loop-made.invariant.onward

pub loop-made-preserved : goal.loop-made-preserved
loop-made-preserved g c = record {
  onward = onward_more (handlers_of c.args.iface.now (script_of c.args.self.now)) c.args.count c.loop-made.made
      (the_view c.self-in-loop-made.inside) c.args.self.now c.loop-made.self c.round.new.self c.any_lives.result _ _ _
      c.loop-made-test.true c.self-in-loop-made.view_is c.any_lives.ensures c.if-not-any_lives.false
      (round_by (handlers_of c.args.iface.now) (script_of c.loop-made.self) (script_of c.args.self.now) _ _ _ _ _
      c.loop-made.invariant.script c.in_ok-round.ensures.plays) c.loop-made.invariant.onward;
  script = c.round.ensures.script ∙ c.loop-made.invariant.script;
}

pub returns-clause-plays : goal.returns-clause-plays
returns-clause-plays g c =
    onward_all (handlers_of c.args.iface.now (script_of c.args.self.now)) c.args.count c.loop-made.made c.args.self.now
    c.loop-made.self _ _ c.loop-made-test.false c.loop-made.invariant.onward
