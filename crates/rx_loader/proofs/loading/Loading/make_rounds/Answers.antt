use Rattle.std.proofs.Common.{◌∙◌, arith, refl}
use Rattle.rx_load.specs.declared.limits.TheConstants.{MAX_ROUNDS}
use Rattle.rx_loader.proofs.Made.{onward_all, onward_more, onward_none, onward_over, onward_stops}
use Rattle.rx_loader.proofs.loading.Loading.make_rounds.Goals as goal

pub loop-made-init : goal.loop-made-init
loop-made-init g c = record {
  onward = onward_none c.args.calls MAX_ROUNDS c.args.self.now _;
  script = refl;
  rounds = c.requires.first;
  err_told = refl;
  err_faults = refl;
}

pub returns-then-all_ended-clause-plays : goal.returns-then-all_ended-clause-plays
returns-then-all_ended-clause-plays g c =
    onward_over c.args.calls MAX_ROUNDS c.loop-made.made c.args.self.now c.loop-made.self c.all_ended.result _ _
    c.all_ended.ensures c.if-all_ended.true c.loop-made.invariant.onward

pub returns-in_err-round-clause-plays : goal.returns-in_err-round-clause-plays
returns-in_err-round-clause-plays g c =
    onward_stops c.args.calls MAX_ROUNDS c.loop-made.made c.args.self.now c.loop-made.self c.round.new.self
    c.round.new.self c.all_ended.result c.from_residual.result c.in_err-round.field-0.0 _ _ _ c.loop-made-test.true
    c.all_ended.ensures c.if-all_ended.false c.in_err-round.ensures.plays c.from_residual.ensures
    c.loop-made.invariant.onward

pub loop-made-preserved : goal.loop-made-preserved
loop-made-preserved g c = record {
  onward = onward_more c.args.calls MAX_ROUNDS c.loop-made.made c.args.self.now c.loop-made.self c.round.new.self
      c.all_ended.result _ _ _ c.loop-made-test.true c.all_ended.ensures c.if-all_ended.false
      c.in_ok-round.ensures.plays c.loop-made.invariant.onward;
  script = c.round.ensures.script ∙ c.loop-made.invariant.script;
  rounds = omega (arith, c.in_ok-round.ensures.rounds, c.loop-made.invariant.rounds);
  err_told = c.show.ensures.told ∙ c.loop-made.invariant.err_told;
  err_faults = c.show.ensures.faults ∙ c.loop-made.invariant.err_faults;
}

pub returns-clause-plays : goal.returns-clause-plays
returns-clause-plays g c =
    onward_all c.args.calls MAX_ROUNDS c.loop-made.made c.args.self.now c.loop-made.self _ _ c.loop-made-test.false
    c.loop-made.invariant.onward
