use Rattle.std.proofs.Common.{◌≡◌, ◌<◌, ◌≤◌, ℕ, List, Some, length, refl, ap, sym, subst, ◌∙◌, arith}
use Rattle.std.proofs.lemmas.Option.{slice_get_read}
use Rattle.std.proofs.lemmas.List.{length-map}
use Rattle.std.proofs.lemmas.Result.{IfOk-weaker}
use Rattle.xg_check.specs.declared.types.Ways.TheVariants as ways
use Rattle.xg_check.specs.Typed.{part_places}
use Rattle.xg_check.specs.Graphs.{AreNodes, AreReversed, AreReached}
use Rattle.xg_check.specs.Judging.{AreWithoutEnd}
use Rattle.xg_check.proofs.FreeLaws.{starts_open_more, open_starts_more, open_starts_same, all_starts, starts_small}
use Rattle.xg_check.proofs.FreeLaws.{without_end_are}
use Rattle.xg_check.proofs.sizes.without_end.Goals as goal
use Rattle.xg_check.proofs.sizes.without_end.Goals.{then-not-index+in_ok-push, else-not-index}

pub loop-place-preserved : goal.loop-place-preserved
loop-place-preserved c =
    let ended = c.args.order.now.ended.items in
    let i = c.loop-place.place in
    let lt : i < length ended =
    omega (arith, c.loop-place-test.true, c.len-place-end.ensures, c.args.order.now.ended.ok.0) in
    let read = slice_get_read ended (length ended) i c.index.result.now refl lt c.index.ensures in
    elim c.if-not-index.branch [
      | then-not-index+in_ok-push w ↦
          rw w.starts-is (record {
            starts_open = starts_open_more ended c.loop-place.starts.items w.push.new.self.items i
                w.in_ok-push.ensures.items
                (read ∙ ap Some w.if-not-index.true) c.loop-place.invariant.starts_open;
            open_starts = open_starts_more ended c.loop-place.starts.items w.push.new.self.items i
                w.in_ok-push.ensures.items
                c.loop-place.invariant.open_starts;
          })
      | else-not-index w ↦
          rw w.starts-is (record {
            starts_open = c.loop-place.invariant.starts_open;
            open_starts = open_starts_same ended c.loop-place.starts.items i (read ∙ ap Some w.if-not-index.false)
                c.loop-place.invariant.open_starts;
          })
    ]

pub reach-requires : goal.reach-requires
reach-requires c =
    let ts = c.args.types.now in
    let ended = c.args.order.now.ended.items in
    let back = c.in_ok-reversed.field-0 in
    let w = ap length c.in_ok-ways.ensures in
    let le : length ended ≤ length back =
    omega (
      arith,
      c.in_ok-reversed.ensures.size,
      w,
      length-map ts (part_places ts ways.All),
      c.requires.size,
      length-map ts (part_places ts ways.Held),
    ) in
    subst (λ (xs : List ℕ). AreNodes back xs) (sym c.as_slice.ensures.value)
    (starts_small ended c.loop-place.starts.items (length back) le c.loop-place.invariant.starts_open)

pub returns : goal.returns
returns c =
    let ts = c.args.types.now in
    let ended = c.args.order.now.ended.items in
    let starts = c.loop-place.starts.items in
    let back = c.in_ok-reversed.field-0 in
    let w = ap length c.in_ok-ways.ensures in
    let turned = subst (λ (g : List (List ℕ)). AreReversed g back) c.in_ok-ways.ensures c.in_ok-reversed.ensures in
    let size : length back ≡ length ts =
    omega (arith, c.in_ok-reversed.ensures.size, w, length-map ts (part_places ts ways.All)) in
    let seen : length ended ≤ c.loop-place.place =
    omega (arith, c.loop-place-test.false, c.len-place-end.ensures, c.args.order.now.ended.ok.0) in
    IfOk-weaker c.reach-2.result (λ marks. AreReached back c.as_slice.result.now marks.items)
    (λ marks. AreWithoutEnd ts marks.items)
    (λ marks r. without_end_are ts back c.args.order.now.nodes.items ended starts marks.items c.requires turned
    c.loop-place.invariant.starts_open
    (all_starts ended starts c.loop-place.place seen c.loop-place.invariant.open_starts)
    (subst (λ (xs : List ℕ). AreReached back xs marks.items) c.as_slice.ensures.value r) size)
    c.reach-2.ensures
