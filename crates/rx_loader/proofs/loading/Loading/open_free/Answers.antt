use Rattle.std.proofs.Common.{◌∙◌, arith, refl}
use Rattle.rx_loader.proofs.Opened.{onward_all, onward_more, onward_none, onward_over, onward_stops}
use Rattle.rx_loader.proofs.loading.Loading.open_free.Goals as goal

pub loop-made-init : goal.loop-made-init
loop-made-init g c = record {
  onward = onward_none c.args.calls 4 c.args.client c.args.self.now _;
  script = refl;
  rounds = refl;
}

pub returns-then-not-may_open-clause-plays : goal.returns-then-not-may_open-clause-plays
returns-then-not-may_open-clause-plays g c =
    onward_over c.args.calls 4 c.loop-made.made c.args.client c.args.self.now c.loop-made.self c.may_open.result _ _
    c.may_open.ensures.exact c.if-not-may_open.true c.loop-made.invariant.onward

pub open-requires-clause-few : goal.open-requires-clause-few
open-requires-clause-few g c =
    omega (arith, c.requires.few, c.may_open.ensures.few c.if-not-may_open.false)

pub returns-in_err-open-clause-plays : goal.returns-in_err-open-clause-plays
returns-in_err-open-clause-plays g c =
    onward_stops c.args.calls 4 c.loop-made.made c.args.client c.args.self.now c.loop-made.self c.open.new.self
    c.open.new.self c.may_open.result c.from_residual.result c.in_err-open.field-0.0 _ _ _ c.loop-made-test.true
    c.may_open.ensures.exact c.if-not-may_open.false c.in_err-open.ensures.plays c.from_residual.ensures
    c.loop-made.invariant.onward

pub loop-made-preserved : goal.loop-made-preserved
loop-made-preserved g c = record {
  onward = onward_more c.args.calls 4 c.loop-made.made c.args.client c.args.self.now c.loop-made.self c.open.new.self
      c.may_open.result _ _ _ c.loop-made-test.true c.may_open.ensures.exact c.if-not-may_open.false
      c.in_ok-open.ensures.plays c.loop-made.invariant.onward;
  script = c.open.ensures.script ∙ c.loop-made.invariant.script;
  rounds = c.open.ensures.rounds ∙ c.loop-made.invariant.rounds;
}

pub returns-clause-plays : goal.returns-clause-plays
returns-clause-plays g c =
    onward_all c.args.calls 4 c.loop-made.made c.args.client c.args.self.now c.loop-made.self _ _
    c.loop-made-test.false c.loop-made.invariant.onward
