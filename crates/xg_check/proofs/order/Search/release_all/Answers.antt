use Rattle.std.proofs.Common.{◌<◌, length, refl, arith}
use Rattle.std.proofs.lemmas.Option.{slice_get_read}
use Rattle.xg_check.proofs.SearchLaws.{listed-le}
use Rattle.xg_check.proofs.OrderLaws.{all_released}
use Rattle.xg_check.proofs.order.Search.release_all.Goals as goal

pub returns-then-at-len : goal.returns-then-at-len
returns-then-at-len c =
    all_released c.args.graph.now c.loop-at.at _ _ _ _ c.loop-at.invariant (omega arith)

pub release-requires-clause-stands : goal.release-requires-clause-stands
release-requires-clause-stands c =
    let nodes = c.loop-at.self.nodes.items in
    let lt : c.loop-at.at < length nodes = omega arith in
    slice_get_read nodes (length nodes) c.loop-at.at c.index-node.result.now refl lt c.index-node.ensures

pub returns : goal.returns
returns c =
    let is = c.loop-at.invariant.is in
    let few = listed-le c.loop-at.self.ended.items c.loop-at.self.nodes.items is.listed in
    all_released c.args.graph.now c.loop-at.at _ _ _ _ c.loop-at.invariant (omega (arith, few, is.ended_size))
