use Rattle.std.proofs.Common.{◌≡◌, ℕ, List, length, replicate, get_or, slice_get, ap, sym, subst, ◌∙◌, arith}
use Rattle.std.specs.List.{list_any}
use Rattle.std.proofs.lemmas.Option.{slice_get-get_or}
use Rattle.xg_check.specs.declared.tags.Tag.{Tag}
use Rattle.xg_check.specs.declared.tags.Tag.TheVariants as tags
use Rattle.xg_check.specs.declared.types.Ways.TheVariants as ways
use Rattle.xg_check.specs.Typed.{type_ways}
use Rattle.xg_check.specs.Tags.{enum_has}
use Rattle.xg_check.specs.Held.{AreTagged, same_pair}
use Rattle.xg_check.proofs.HeldLaws.{same_size}
use Rattle.xg_check.proofs.AlongLaws.{along, type_at}
use Rattle.xg_check.proofs.TableLaws.{none_tagged, tagged_more, all_tagged}
use Rattle.xg_check.proofs.SetLaws.{no_types, types_more, types_all}
use Rattle.xg_check.proofs.tags.Tags.of.Goals as goal

pub loop-place-init : goal.loop-place-init
loop-place-init c =
    let ts = c.args.types.now in
    let items = c.deref-place-items.result.now in
    let is : c.in_ok-repeated.field-0.items ≡ replicate (length ts) tags.Other =
    c.in_ok-repeated.ensures ∙ ap (λ (n : ℕ). replicate n tags.Other) c.len.ensures in
    record {
      tagged = subst (λ (found : List Tag). AreTagged ts items 0 found) (sym is) (none_tagged ts items);
      empty = λ i z. ap (list_any (same_pair (i, z))) c.new.ensures.empty;
    }

pub part-requires : goal.part-requires
part-requires c =
    let ts = c.args.types.now in
    let items = c.deref-place-items.result.now in
    let ended = c.args.order.now.ended.items in
    type_at ts items ended (along (type_ways ts ways.Held) c.args.order.now.nodes.items items ended c.requires
    c.deref-place-items.ensures.value) c.loop-place.place-index c.loop-place-test.true

pub index_mut-requires : goal.index_mut-requires
index_mut-requires c =
    let ts = c.args.types.now in
    let items = c.deref-place-items.result.now in
    let ended = c.args.order.now.ended.items in
    let lt = type_at ts items ended (along (type_ways ts ways.Held) c.args.order.now.nodes.items items ended c.requires
    c.deref-place-items.ensures.value) c.loop-place.place-index c.loop-place-test.true in
    omega (arith, lt, c.loop-place.invariant.tagged.size, c.loop-place.found.tags.ok.0)

pub loop-place-preserved : goal.loop-place-preserved
loop-place-preserved c =
    let ts = c.args.types.now in
    let items = c.deref-place-items.result.now in
    let ended = c.args.order.now.ended.items in
    let k = c.loop-place.place-index in
    let o = along (type_ways ts ways.Held) c.args.order.now.nodes.items items ended c.requires
    c.deref-place-items.ensures.value in
    record {
      tagged = tagged_more ts items ended o k (get_or items k 0) c.part.result.now c.loop-place.found.tags.items
          c.loop-place.invariant.tagged (slice_get-get_or items k 0 c.loop-place-test.true) c.part.ensures
          c.part_tag-tag.result c.part_tag-tag.ensures;
      empty = c.loop-place.invariant.empty;
    }

pub loop-place-2-init : goal.loop-place-2-init
loop-place-2-init c =
    let ts = c.args.types.now in
    let items = c.deref-place-items.result.now in
    let ended = c.args.order.now.ended.items in
    let o = along (type_ways ts ways.Held) c.args.order.now.nodes.items items ended c.requires
    c.deref-place-items.ensures.value in
    record {
      size = c.loop-place.invariant.tagged.size;
      tags_are = all_tagged ts items ended o c.loop-place.place-index c.loop-place.found.tags.items
          c.loop-place.invariant.tagged c.loop-place-test.false (same_size ts);
      values_are = λ i z. c.loop-place.invariant.empty i z
          ∙ no_types i (enum_has c.args.constants.now (slice_get ts i) z);
    }

pub loop-place-2-preserved : goal.loop-place-2-preserved
loop-place-2-preserved c =
    let ts = c.args.types.now in
    let cs = c.args.constants.now in
    let same = c.add_values.ensures.tags in
    record {
      size = ap (λ t. length t.items) same ∙ c.loop-place-2.invariant.size;
      tags_are = λ i lt. ap (λ t. slice_get t.items i) same ∙ c.loop-place-2.invariant.tags_are i lt;
      values_are = λ i z. types_more (λ j. enum_has cs (slice_get ts j) z) i c.loop-place-2.place _ _
          (c.loop-place-2.invariant.values_are i z) (c.in_ok-add_values.ensures.values i z);
    }

pub returns : goal.returns
returns c = record {
  size = c.loop-place-2.invariant.size;
  tags_are = c.loop-place-2.invariant.tags_are;
  values_are = λ i z. types_all c.args.constants.now c.args.types.now i c.loop-place-2.place z _
      (omega arith) (c.loop-place-2.invariant.values_are i z);
}
