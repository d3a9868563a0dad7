use Rattle.std.proofs.Common.{◌<◌, ℕ, length, refl, subst, sym, arith}
use Rattle.std.specs.List.{AllByRecursion}
use Rattle.std.proofs.lemmas.Option.{slice_get_read, slice_get_within}
use Rattle.xg_check.proofs.SearchLaws.{followed_more, all_followed, listed-le}
use Rattle.xg_check.proofs.reach.Reached.follow.Goals as goal

pub next-requires : goal.next-requires
next-requires c =
    let nodes = c.loop-at.self.nodes.items in
    let marks = c.loop-at.self.marks.items in
    let lt : c.loop-at.at < length nodes = omega arith in
    let here = slice_get_read nodes (length nodes) c.loop-at.at c.index-node.result.now refl lt c.index-node.ensures in
    let there = c.loop-at.invariant.listed.there c.loop-at.at c.index-node.result.now here in
    let small = slice_get_within marks c.index-node.result.now _ there in
    omega (arith, small, c.loop-at.invariant.size)

pub add-requires-clause-there : goal.add-requires-clause-there
add-requires-clause-there c =
    subst (λ (n : ℕ). AllByRecursion (λ i. i < n) c.next.result.now) (sym c.loop-at.invariant.size) c.next.ensures.nodes

pub loop-at-preserved : goal.loop-at-preserved
loop-at-preserved c =
    let nodes = c.loop-at.self.nodes.items in
    let lt : c.loop-at.at < length nodes = omega arith in
    let here = slice_get_read nodes (length nodes) c.loop-at.at c.index-node.result.now refl lt c.index-node.ensures in
    followed_more c.args.graph.now c.args.starts.now c.loop-at.self.marks.items c.add.new.self.marks.items
    c.loop-at.self.nodes.items c.add.new.self.nodes.items c.loop-at.at c.index-node.result.now c.next.result.now
    c.loop-at.invariant here c.next.ensures.next c.in_ok-add.ensures

pub returns : goal.returns
returns c =
    let marks = c.loop-at.self.marks.items in
    let nodes = c.loop-at.self.nodes.items in
    let few = listed-le marks nodes c.loop-at.invariant.listed in
    all_followed c.args.graph.now c.args.starts.now marks nodes c.loop-at.at c.loop-at.invariant
    (omega (arith, few, c.loop-at.invariant.size))

pub returns-then-at-len : goal.returns-then-at-len
returns-then-at-len c =
    all_followed c.args.graph.now c.args.starts.now c.loop-at.self.marks.items c.loop-at.self.nodes.items c.loop-at.at
    c.loop-at.invariant (omega arith)
