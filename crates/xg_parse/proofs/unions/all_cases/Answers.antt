use Rattle.std.proofs.Common.{List, refl, sym, ap, ◌∙◌}
use Rattle.std.proofs.lemmas.Result.{err_from_is_err_and}
use Rattle.xg_parse.specs.declared.tree.ArmItem.{ArmItem}
use Rattle.xg_parse.specs.declared.terminal.Terminal.TheVariants as terms
use Rattle.xg_parse.specs.Rules.{◌▹◌}
use Rattle.xg_parse.specs.Reading.{read_rule}
use Rattle.xg_parse.specs.Grammar.{the, all_cases, cases, case_list, case, more_cases, const_word, arm}
use Rattle.xg_parse.specs.Gives.{cursor_place}
use Rattle.xg_parse.proofs.LoopLaws.{with_front, shorter, loop_goes_on, loop_ends, loop_stops, loop_gives, first_of}
use Rattle.xg_parse.proofs.unions.all_cases.Goals as goal

pub returns-in_err-item : goal.returns-in_err-item
unfolding all_cases cases case_list case
returns-in_err-item c =
    let p = err_from_is_err_and c.from_residual.result c.from_residual.ensures.1 in
    rw (p.1, p.2)
    (loop_stops cases c.each.items.items (cursor_place c.each.place) _ c.in_err-item.field-0.0 c.each.invariant
    (first_of case_list arm refl c.each.place.next ∙ (first_of case more_cases refl c.each.place.next ∙
    (first_of (the terms.Case) (const_word ▹ the terms.Colon) refl c.each.place.next ∙
    (sym c.is.ensures ∙ c.each-test.true)))) c.in_err-item.ensures)

pub each-smaller : goal.each-smaller
unfolding all_cases cases case_list case
each-smaller c = shorter cases refl (cursor_place c.each.place) _ c.in_ok-item.ensures

pub each-preserved : goal.each-preserved
unfolding all_cases cases case_list case
each-preserved c =
    ap (λ (xs : List ArmItem). with_front xs (read_rule all_cases (cursor_place c.in_ok-item.behind)))
    c.in_ok-push.ensures.items
    ∙ loop_goes_on cases refl c.each.items.items (cursor_place c.each.place) (cursor_place c.in_ok-item.behind)
    c.in_ok-item.item _
    c.each.invariant (first_of case_list arm refl c.each.place.next ∙
    (first_of case more_cases refl c.each.place.next ∙ (first_of (the terms.Case)
    (const_word ▹ the terms.Colon) refl c.each.place.next ∙ (sym c.is.ensures ∙ c.each-test.true))))
    c.in_ok-item.ensures

pub returns : goal.returns
unfolding all_cases cases case_list case
returns c =
    loop_gives _ _ _ _ _ (loop_ends cases c.each.items.items (cursor_place c.each.place) _ c.each.invariant
    (first_of case_list arm refl c.each.place.next ∙ (first_of case more_cases refl c.each.place.next ∙
    (first_of (the terms.Case) (const_word ▹ the terms.Colon) refl c.each.place.next ∙
    (sym c.is.ensures ∙ c.each-test.false)))))
    c.of.ensures c.without.ensures
