use Rattle.std.proofs.Common.{◌∙◌, refl}
use Rattle.rx_jobs.specs.Handlers.{handlers_of}
use Rattle.rx_plan.specs.Lossy.{lossy}
use Rattle.rx_stage.specs.Shown.{script_of}
use Rattle.rx_stage.specs.contracts.world.World.{the_view}
use Rattle.rx_stage.proofs.LossyRounds.{lossy_all, lossy_by, lossy_ended, lossy_onward, lossy_stops, onward_first}
use Rattle.rx_stage.proofs.world.World.lossy.Goals as goal

pub loop-made-init : goal.loop-made-init
loop-made-init g c = record {
  onward = onward_first (handlers_of c.args.iface.now (script_of c.args.self.now)) c.args.number c.args.count
      c.args.self.now c.begin-network.result.words c.begin-network.result.held.items _ c.begin-network.ensures.words
      c.begin-network.ensures.held;
  script = refl;
}

pub returns-then-not-any_lives-clause-plays : goal.returns-then-not-any_lives-clause-plays
returns-then-not-any_lives-clause-plays g c =
    lossy_ended (handlers_of c.args.iface.now (script_of c.args.self.now))
    (lossy (handlers_of c.args.iface.now (script_of c.args.self.now)) c.args.number c.args.count) c.args.count
    c.loop-made.made (the_view c.self-in-loop-made.inside) c.args.self.now c.loop-made.self c.loop-made.network.words
    c.loop-made.network.held.items c.any_lives.result _ _ c.self-in-loop-made.view_is c.any_lives.ensures
    c.if-not-any_lives.true c.loop-made.invariant.onward

pub returns-in_err-lossy_round-clause-plays : goal.returns-in_err-lossy_round-clause-plays
returns-in_err-lossy_round-clause-plays g c =
    lossy_stops (handlers_of c.args.iface.now (script_of c.args.self.now))
    (lossy (handlers_of c.args.iface.now (script_of c.args.self.now)) c.args.number c.args.count) c.args.count
    c.loop-made.made (the_view c.self-in-loop-made.inside) c.args.self.now c.loop-made.self c.lossy_round.new.self _
    c.loop-made.network.words c.lossy_round.new.network.words c.loop-made.network.held.items
    c.lossy_round.new.network.held.items c.any_lives.result c.from_residual.result c.in_err-lossy_round.field-0.0 _ _ _
    c.loop-made-test.true c.self-in-loop-made.view_is c.any_lives.ensures c.if-not-any_lives.false
    (lossy_by (handlers_of c.args.iface.now) (script_of c.loop-made.self) (script_of c.args.self.now) _ _ _ _ _ _ _ _ _
    c.loop-made.invariant.script c.in_err-lossy_round.ensures.plays) c.from_residual.ensures
    c.loop-made.invariant.onward

pub loop-made-preserved : goal.loop-made-preserved
loop-made-preserved g c = record {
  onward = lossy_onward (handlers_of c.args.iface.now (script_of c.args.self.now))
      (lossy (handlers_of c.args.iface.now (script_of c.args.self.now)) c.args.number c.args.count) c.args.count
      c.loop-made.made (the_view c.self-in-loop-made.inside) c.args.self.now c.loop-made.self c.lossy_round.new.self
      c.loop-made.network.words c.lossy_round.new.network.words c.loop-made.network.held.items
      c.lossy_round.new.network.held.items c.any_lives.result _ _ _ c.loop-made-test.true c.self-in-loop-made.view_is
      c.any_lives.ensures c.if-not-any_lives.false (lossy_by (handlers_of c.args.iface.now) (script_of c.loop-made.self)
      (script_of c.args.self.now) _ _ _ _ _ _ _ _ _ c.loop-made.invariant.script c.in_ok-lossy_round.ensures.plays)
      c.loop-made.invariant.onward;
  script = c.lossy_round.ensures.script ∙ c.loop-made.invariant.script;
}

pub returns-clause-plays : goal.returns-clause-plays
returns-clause-plays g c =
    lossy_all (handlers_of c.args.iface.now (script_of c.args.self.now))
    (lossy (handlers_of c.args.iface.now (script_of c.args.self.now)) c.args.number c.args.count) c.args.count
    c.loop-made.made c.args.self.now c.loop-made.self c.loop-made.network.words c.loop-made.network.held.items _ _
    c.loop-made-test.false c.loop-made.invariant.onward
