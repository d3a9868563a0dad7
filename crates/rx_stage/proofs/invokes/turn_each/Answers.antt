use Rattle.std.proofs.Common.{refl, ◌∙◌, get_or}
use Rattle.rx_plan.specs.Turned.{turns_at}
use Rattle.rx_stage.proofs.CallersMade.{callers_more, callers_none, callers_stop, same_there}
use Rattle.rx_stage.proofs.invokes.turn_each.Goals as goal

pub loop-place-init : goal.loop-place-init
loop-place-init g c = record {
  plays = callers_none turns_at c.args.callers.now.items c.args.nodes.now _;
  sink = refl;
  book = refl;
  done = λ p is. is;
  count = refl;
}

pub returns-in_err-turn_at-clause-plays : goal.returns-in_err-turn_at-clause-plays
returns-in_err-turn_at-clause-plays g c =
    callers_stop turns_at c.args.places.now c.loop-place.place-index
    (get_or c.args.places.now c.loop-place.place-index 0) c.args.callers.now.items
    c.loop-place.callers.items c.turn_at.new.callers.items c.args.nodes.now c.loop-place.nodes c.turn_at.new.nodes
    c.from_residual.result c.in_err-turn_at.field-0.0 _ _ _ c.from_residual.ensures c.loop-place-test.true
    (same_there c.args.places.now c.loop-place.place-index 0 _ c.loop-place-test.true) c.loop-place.invariant.plays
    c.in_err-turn_at.ensures.plays

pub loop-place-preserved : goal.loop-place-preserved
loop-place-preserved g c = record {
  plays = callers_more turns_at c.args.places.now c.loop-place.place-index
      (get_or c.args.places.now c.loop-place.place-index 0)
      c.args.callers.now.items c.loop-place.callers.items c.turn_at.new.callers.items c.args.nodes.now
      c.loop-place.nodes c.turn_at.new.nodes _ _ _ c.loop-place-test.true
      (same_there c.args.places.now c.loop-place.place-index 0 _ c.loop-place-test.true)
      c.loop-place.invariant.plays c.in_ok-turn_at.ensures.plays;
  sink = c.turn_at.ensures.sink ∙ c.loop-place.invariant.sink;
  book = c.turn_at.ensures.book ∙ c.loop-place.invariant.book;
  done = λ p is. c.turn_at.ensures.done p (c.loop-place.invariant.done p is);
  count = c.turn_at.ensures.count ∙ c.loop-place.invariant.count;
}
