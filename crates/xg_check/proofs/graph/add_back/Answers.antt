use Rattle.std.proofs.Common.{◌≡◌, ◌<◌, ◌∷◌, [], ℕ, List, Vec, map, length, get_or, slice_get, Some, sym, subst, arith}
use Rattle.std.specs.declared.alloc.Global.{Global}
use Rattle.std.proofs.lemmas.List.{take_more, length-map}
use Rattle.std.proofs.lemmas.Option.{slice_get-get_or}
use Rattle.xg_check.specs.Searching.{AreBack}
use Rattle.xg_check.proofs.BackLaws.{back_more, pushed_back}
use Rattle.xg_check.proofs.OrderLaws.{below}
use Rattle.xg_check.proofs.graph.add_back.Goals as goal
use Rattle.xg_check.proofs.ValueLaws.{item_at}

pub loop-other-preserved : goal.loop-other-preserved
loop-other-preserved c =
    let items : Vec ℕ Global → List ℕ = λ v. v.items in
    let next = c.args.next.now in
    let i = c.loop-other.other-index in
    let l0 = map items c.args.back.now.items in
    let l1 = map items c.loop-other.back.items in
    let x = get_or next i 0 in
    let here : slice_get next i ≡ Some (get_or next i 0) = slice_get-get_or next i 0 c.loop-other-test.true in
    let small : get_or next i 0 < length c.args.back.now.items =
    below (length c.args.back.now.items) next c.requires i (get_or next i 0) here in
    let inside : get_or next i 0 < length (map items c.loop-other.back.items) =
    omega (arith, small, c.loop-other.invariant.size, length-map c.args.back.now.items items) in
    let ws = item_at l1 x inside in
    rw (take_more next i 0 c.loop-other-test.true)
    (back_more l0 l1 _ c.args.node _ x c.loop-other.invariant
    (subst (λ (ls : List (List ℕ)). AreBack l1 ls c.args.node (x ∷ [])) (sym (c.in_ok-push_back.ensures ws.0 ws.1))
    (pushed_back l1 c.args.node x ws.0 ws.1)))
