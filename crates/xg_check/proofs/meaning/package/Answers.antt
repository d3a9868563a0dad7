use Rattle.std.proofs.Common.{◌≡◌, ◌+◌, drop, ap, sym, ◌∙◌, option_map}
use Rattle.std.proofs.lemmas.List.{at_drop_all}
use Rattle.xg_parse.specs.declared.tree.Item.{Item}
use Rattle.xg_check.specs.Counts.{package_or}
use Rattle.xg_check.specs.Meant.{package_in}
use Rattle.xg_check.proofs.MeantLaws.{or_before, package_more}
use Rattle.xg_check.proofs.meaning.package.Goals as goal

pub loop-item-preserved : goal.loop-item-preserved
loop-item-preserved c =
    let items = c.as_slice-item-items.result.now in
    let i = c.loop-item.item-index in
    let m = c.item-item.result in
    let before = option_map (λ t. t.now) c.loop-item.last in
    ap (or_before (package_in (drop (i + 1) items)))
    (c.package_or-last.ensures ∙ ap (λ (x : Item). package_or x.part before) c.item-item.is)
    ∙ package_more items i m before c.loop-item-test.true ∙ c.loop-item.invariant

pub returns : goal.returns
returns c =
    let items = c.as_slice-item-items.result.now in
    let last = option_map (λ t. t.now) c.loop-item.last in
    let is : last ≡ package_in c.args.tree.now.items =
    sym (ap (λ o. or_before o last) (at_drop_all package_in items c.loop-item.item-index c.loop-item-test.false))
    ∙ c.loop-item.invariant ∙ ap package_in c.as_slice-item-items.ensures in
    rw is at c.copied.ensures
