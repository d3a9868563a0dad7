use Rattle.std.proofs.Common.{◌≡◌, ◌<◌, ℕ, List, false, Vec, map, length, get_or, slice_get, Some, refl, sym, ap, subst}
use Rattle.std.proofs.Common.{◌∙◌, arith}
use Rattle.std.specs.declared.alloc.Global.{Global}
use Rattle.std.proofs.lemmas.Option.{slice_get_read, get_or_from_slice_get}
use Rattle.xg_check.proofs.OrderLaws.{ends_now, waits_now, below}
use Rattle.xg_check.proofs.order.Search.look.Goals as goal
use Rattle.xg_check.proofs.ValueLaws.{item_at}

pub returns-in_ok-end-in-None : goal.returns-in_ok-end-in-None
returns-in_ok-end-in-None c =
    let s = c.args.self.now in
    let items : Vec ℕ Global → List ℕ = λ v. v.items in
    let o = c.requires.is in
    let lt : c.args.node < length s.ended.items = omega (arith, o.ended_size, c.requires.there) in
    let small : c.args.node < length s.looked.items = omega (arith, o.looked_size, c.requires.there) in
    let fresh = slice_get_read s.ended.items (length s.ended.items) c.args.node c.index.result.now refl
    lt c.index.ensures
    ∙ ap Some c.if-index.false in
    let looked = slice_get_read s.looked.items (length s.looked.items) c.args.node c.index-2.result.now refl small
    c.index-2.ensures in
    rw (
      c.in_ok-end-in-None.ensures.ended,
      c.in_ok-end-in-None.ensures.nodes,
      c.in_ok-end-in-None.ensures.waiting,
      c.in_ok-end-in-None.ensures.looked,
    )
    (ends_now c.args.graph.now c.args.node s.ended.items s.nodes.items (map items s.waiting.items) s.looked.items
    c.next-next.result.now c.index-2.result.now o c.next-next.ensures.next looked fresh c.in-None.ensures)

pub returns-in_ok-wait-in-Some : goal.returns-in_ok-wait-in-Some
returns-in_ok-wait-in-Some c =
    let s = c.args.self.now in
    let items : Vec ℕ Global → List ℕ = λ v. v.items in
    let o = c.requires.is in
    let next = c.next-next.result.now in
    let lt : c.args.node < length s.ended.items = omega (arith, o.ended_size, c.requires.there) in
    let small : c.args.node < length s.looked.items = omega (arith, o.looked_size, c.requires.there) in
    let fresh = slice_get_read s.ended.items (length s.ended.items) c.args.node c.index.result.now refl
    lt c.index.ensures
    ∙ ap Some c.if-index.false in
    let looked = slice_get_read s.looked.items (length s.looked.items) c.args.node c.index-2.result.now refl small
    c.index-2.ensures in
    let first = c.in-Some.ensures in
    let j = first.2.0 in
    let other = get_or next c.in-Some.at 0 in
    let is : get_or next c.in-Some.at 0 ≡ j = get_or_from_slice_get next c.in-Some.at j 0 first.2.1 in
    let here : slice_get next c.in-Some.at ≡ Some (get_or next c.in-Some.at 0) = first.2.1 ∙ ap Some (sym is) in
    let idle : slice_get s.ended.items (get_or next c.in-Some.at 0) ≡ Some false =
    subst (λ (k : ℕ). slice_get s.ended.items k ≡ Some false) (sym is) first.2.2 in
    let there : get_or next c.in-Some.at 0 < length c.args.graph.now =
    below (length c.args.graph.now) next c.next-next.ensures.nodes c.in-Some.at (get_or next c.in-Some.at 0) here in
    let in_w : get_or next c.in-Some.at 0 < length (map items s.waiting.items) = omega (arith, o.waiting_size, there) in
    let ws = item_at (map items s.waiting.items) (get_or next c.in-Some.at 0) in_w in
    rw (
      c.in_ok-wait-in-Some.ensures.ended,
      c.in_ok-wait-in-Some.ensures.nodes,
      c.in_ok-wait-in-Some.ensures.waiting ws.0 ws.1,
      c.in_ok-wait-in-Some.ensures.looked,
    )
    (waits_now c.args.graph.now c.args.node s.ended.items s.nodes.items (map items s.waiting.items) s.looked.items
    next c.index-2.result.now o c.next-next.ensures.next looked fresh c.in-Some.at other ws.0 first.0 first.1 here idle
    ws.1 c.requires.there)
