use Rattle.std.proofs.Common.{◌∷◌, ℕ, ℤ, List, Option, map, ap, ◌∙◌}
use Rattle.xg_parse.specs.declared.tree.Item.{Item}
use Rattle.xg_check.specs.Opcodes.{opcodes_in}
use Rattle.xg_check.proofs.CountLaws.{part_counted, list_more, list_last}
use Rattle.xg_check.proofs.opcodes.opcodes.Goals as goal

pub loop-item-preserved : goal.loop-item-preserved
loop-item-preserved c =
    let cs = c.args.constants.now in
    let items = c.as_slice-item-items.result.now in
    let i = c.loop-item.item-index in
    let d = c.item-item.result in
    let was = c.loop-item.invariant in
    record {
      front = d.part ∷ was.front;
      count_is = c.in_ok-count.ensures.count ∙ part_counted cs was.front c.loop-item.count d.part was.count_is;
      list_is = list_more cs was.front c.loop-item.count items i d c.loop-item.list.items _ _ c.loop-item-test.true
          c.item-item.is was.count_is was.list_is c.in_ok-count.ensures.list;
      below = c.in_ok-count.ensures.below i was.below;
    }

pub returns : goal.returns
returns c =
    let cs = c.args.constants.now in
    list_last cs c.loop-item.invariant.front c.as_slice-item-items.result.now c.loop-item.item-index
    c.loop-item.list.items _ c.loop-item-test.false c.loop-item.invariant.list_is
    ∙ ap (λ (items : List Item). map (λ (q : List ℕ × Option ℤ). q.1) (opcodes_in cs items))
    c.as_slice-item-items.ensures
