use Rattle.std.proofs.Common.{◌≡◌, ◌<◌, ◌+◌, ◌∷◌, ℕ, List, Vec, map, length, slice_get, get_or, drop, Some, true, refl}
use Rattle.std.proofs.Common.{sym, ap, ◌∙◌, arith}
use Rattle.std.specs.declared.alloc.Global.{Global}
use Rattle.std.proofs.Common.{drop-cons, add-one}
use Rattle.std.proofs.lemmas.List.{length-map, drop_all}
use Rattle.std.proofs.lemmas.Option.{slice_get_within}
use Rattle.xg_check.proofs.OrderLaws.{released, one_less, none_left}
use Rattle.xg_check.proofs.order.Search.release.Goals as goal

-- the first of what is left, and what is left behind it
one_off : (xs : List ℕ) (k : ℕ) → k < length xs → drop k xs ≡ get_or xs k 0 ∷ drop (k + 1) xs
one_off xs k lt = drop-cons xs k 0 lt ∙ ap (λ (n : ℕ). get_or xs k 0 ∷ drop n xs) (sym (add-one k))

pub take_list-waiting-requires : goal.take_list-waiting-requires
take_list-waiting-requires c =
    let s = c.args.self.now in
    let items : Vec ℕ Global → List ℕ = λ v. v.items in
    let is = c.requires.is.is in
    let ended : slice_get s.ended.items c.args.node ≡ Some true =
    is.listed.there c.args.at c.args.node c.requires.stands in
    omega (
      arith,
      slice_get_within s.ended.items c.args.node true ended,
      is.ended_size,
      is.waiting_size,
      length-map s.waiting.items items,
    )

pub loop-other-init : goal.loop-other-init
loop-other-init c =
    let s = c.args.self.now in
    let items : Vec ℕ Global → List ℕ = λ v. v.items in
    rw (c.take_list-waiting.ensures.left, c.deref-other-items.ensures.value)
    (released c.args.graph.now c.args.at c.args.node s.ended.items s.nodes.items (map items s.waiting.items)
    s.looked.items c.take_list-waiting.result.items c.requires.is c.requires.stands c.take_list-waiting.ensures.taken)

pub look-requires-clause-there : goal.look-requires-clause-there
look-requires-clause-there c =
    let ws = c.deref-other-items.result.now in
    let k = c.loop-other.other-index in
    let some = rw (one_off ws k c.loop-other-test.true) at c.loop-other.invariant in
    some.small 0 (get_or ws k 0) refl

pub loop-other-preserved : goal.loop-other-preserved
loop-other-preserved c =
    let ws = c.deref-other-items.result.now in
    let k = c.loop-other.other-index in
    let some = rw (one_off ws k c.loop-other-test.true) at c.loop-other.invariant in
    one_less c.args.graph.now _ (get_or ws k 0) (drop (k + 1) ws) _ _ _ _ _ _ _ _ some c.in_ok-look.ensures

pub returns : goal.returns
returns c =
    let ws = c.deref-other-items.result.now in
    let k = c.loop-other.other-index in
    let some = rw (drop_all k ws (omega arith)) at c.loop-other.invariant in
    none_left c.args.graph.now _ _ _ _ _ some
