use Rattle.std.proofs.Common.{refl, ◌∙◌, get_or}
use Rattle.rx_plan.specs.Turned.{turns_for}
use Rattle.rx_stage.proofs.CallersMade.{callers_more, callers_none, callers_stop, same_there}
use Rattle.rx_stage.proofs.invokes.turn_each_of.Goals as goal

pub loop-place-init : goal.loop-place-init
loop-place-init g c = record {
  plays = callers_none (turns_for c.args.node) c.args.callers.now.items c.args.nodes.now _;
  sink = refl;
  book = refl;
  done = λ p is. is;
  count = refl;
}

pub returns-in_err-turn_for-clause-plays : goal.returns-in_err-turn_for-clause-plays
returns-in_err-turn_for-clause-plays g c =
    callers_stop (turns_for c.args.node) c.args.places.now c.loop-place.place-index
    (get_or c.args.places.now c.loop-place.place-index 0) c.args.callers.now.items
    c.loop-place.callers.items c.turn_for.new.callers.items c.args.nodes.now c.loop-place.nodes c.turn_for.new.nodes
    c.from_residual.result c.in_err-turn_for.field-0.0 _ _ _ c.from_residual.ensures c.loop-place-test.true
    (same_there c.args.places.now c.loop-place.place-index 0 _ c.loop-place-test.true) c.loop-place.invariant.plays
    c.in_err-turn_for.ensures.plays

pub loop-place-preserved : goal.loop-place-preserved
loop-place-preserved g c = record {
  plays = callers_more (turns_for c.args.node) c.args.places.now c.loop-place.place-index
      (get_or c.args.places.now c.loop-place.place-index 0)
      c.args.callers.now.items c.loop-place.callers.items c.turn_for.new.callers.items c.args.nodes.now
      c.loop-place.nodes c.turn_for.new.nodes _ _ _ c.loop-place-test.true
      (same_there c.args.places.now c.loop-place.place-index 0 _ c.loop-place-test.true)
      c.loop-place.invariant.plays c.in_ok-turn_for.ensures.plays;
  sink = c.turn_for.ensures.sink ∙ c.loop-place.invariant.sink;
  book = c.turn_for.ensures.book ∙ c.loop-place.invariant.book;
  done = λ p is. c.turn_for.ensures.done p (c.loop-place.invariant.done p is);
  count = c.turn_for.ensures.count ∙ c.loop-place.invariant.count;
}
