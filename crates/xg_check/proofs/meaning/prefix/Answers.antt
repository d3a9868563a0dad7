use Rattle.std.proofs.Common.{◌≡◌, ◌+◌, drop, ap, sym, ◌∙◌, option_map}
use Rattle.std.proofs.lemmas.List.{at_drop_all}
use Rattle.xg_parse.specs.declared.tree.Item.{Item}
use Rattle.xg_check.specs.Counts.{prefix_or}
use Rattle.xg_check.specs.Meant.{prefix_in}
use Rattle.xg_check.proofs.MeantLaws.{or_before, prefix_more}
use Rattle.xg_check.proofs.meaning.prefix.Goals as goal

pub loop-item-preserved : goal.loop-item-preserved
loop-item-preserved c =
    let items = c.as_slice-item-items.result.now in
    let i = c.loop-item.item-index in
    let m = c.item-item.result in
    let before = option_map (λ t. t.now) c.loop-item.last in
    ap (or_before (prefix_in (drop (i + 1) items)))
    (c.prefix_or-last.ensures ∙ ap (λ (x : Item). prefix_or x.part before) c.item-item.is)
    ∙ prefix_more items i m before c.loop-item-test.true ∙ c.loop-item.invariant

pub returns : goal.returns
returns c =
    let items = c.as_slice-item-items.result.now in
    let last = option_map (λ t. t.now) c.loop-item.last in
    let is : last ≡ prefix_in c.args.tree.now.items =
    sym (ap (λ o. or_before o last) (at_drop_all prefix_in items c.loop-item.item-index c.loop-item-test.false))
    ∙ c.loop-item.invariant ∙ ap prefix_in c.as_slice-item-items.ensures in
    rw is at c.copied.ensures
