use Rattle.std.proofs.Common.{◌≡◌, ℕ, Bool, false, List, Option, None, length, replicate, get_or, ap, sym, subst, ◌∙◌}
use Rattle.std.proofs.Common.{arith}
use Rattle.std.proofs.lemmas.Option.{slice_get-get_or}
use Rattle.xg_check.specs.Held.{AreMeasured}
use Rattle.xg_check.specs.declared.types.Ways.TheVariants as ways
use Rattle.xg_check.specs.Typed.{type_ways}
use Rattle.xg_check.proofs.HeldLaws.{same_size}
use Rattle.xg_check.proofs.AlongLaws.{along, type_at}
use Rattle.xg_check.proofs.MeasureLaws.{none_measured, measured_more, all_measured}
use Rattle.xg_check.proofs.encoding.Encodings.of.Goals as goal

pub loop-place-init : goal.loop-place-init
loop-place-init c =
    let ts = c.args.types.now in
    let cs = c.args.constants.now in
    let items = c.deref-place-items.result.now in
    let hollow : c.in_ok-repeated.field-0.items ≡ replicate (length ts) false =
    c.in_ok-repeated.ensures ∙ ap (λ (n : ℕ). replicate n false) c.len-count.ensures in
    let least : c.in_ok-repeated-2.field-0.items ≡ replicate (length ts) None =
    c.in_ok-repeated-2.ensures ∙ ap (λ (n : ℕ). replicate n None) c.len-count.ensures in
    subst (λ (hs : List Bool). AreMeasured ts cs items 0 hs c.in_ok-repeated-2.field-0.items) (sym hollow)
    (subst (λ (ls : List (Option ℕ)). AreMeasured ts cs items 0 (replicate (length ts) false) ls) (sym least)
    (none_measured ts cs items))

pub part-part-requires : goal.part-part-requires
part-part-requires c =
    let ts = c.args.types.now in
    let items = c.deref-place-items.result.now in
    let ended = c.args.order.now.ended.items in
    type_at ts items ended (along (type_ways ts ways.Held) c.args.order.now.nodes.items items ended c.requires
    c.deref-place-items.ensures.value) c.loop-place.place-index c.loop-place-test.true

pub index_mut-requires : goal.index_mut-requires
index_mut-requires c =
    let ts = c.args.types.now in
    let items = c.deref-place-items.result.now in
    let ended = c.args.order.now.ended.items in
    let lt = type_at ts items ended (along (type_ways ts ways.Held) c.args.order.now.nodes.items items ended c.requires
    c.deref-place-items.ensures.value) c.loop-place.place-index c.loop-place-test.true in
    omega (arith, lt, c.loop-place.invariant.hollow_size, c.loop-place.found.hollow.ok.0)

pub index_mut-requires-in-loop-place : goal.index_mut-requires-in-loop-place
index_mut-requires-in-loop-place c =
    let ts = c.args.types.now in
    let items = c.deref-place-items.result.now in
    let ended = c.args.order.now.ended.items in
    let lt = type_at ts items ended (along (type_ways ts ways.Held) c.args.order.now.nodes.items items ended c.requires
    c.deref-place-items.ensures.value) c.loop-place.place-index c.loop-place-test.true in
    omega (arith, lt, c.loop-place.invariant.least_size, c.loop-place.found.least.ok.0)

pub loop-place-preserved : goal.loop-place-preserved
loop-place-preserved c =
    let ts = c.args.types.now in
    let cs = c.args.constants.now in
    let items = c.deref-place-items.result.now in
    let ended = c.args.order.now.ended.items in
    let k = c.loop-place.place-index in
    let o = along (type_ways ts ways.Held) c.args.order.now.nodes.items items ended c.requires
    c.deref-place-items.ensures.value in
    measured_more ts cs items ended o k (get_or items k 0) c.part-part.result.now c.loop-place.found.hollow.items
    c.loop-place.found.least.items c.loop-place.invariant (slice_get-get_or items k 0 c.loop-place-test.true)
    c.part-part.ensures c.part_hollow-hollow.result c.part_bytes-least.result c.part_hollow-hollow.ensures
    c.part_bytes-least.ensures

pub returns : goal.returns
returns c =
    let ts = c.args.types.now in
    let items = c.deref-place-items.result.now in
    let ended = c.args.order.now.ended.items in
    all_measured ts c.args.constants.now items ended
    (along (type_ways ts ways.Held) c.args.order.now.nodes.items items ended c.requires
    c.deref-place-items.ensures.value)
    c.loop-place.place-index c.loop-place.found.hollow.items c.loop-place.found.least.items c.loop-place.invariant
    c.loop-place-test.false (same_size ts)
