use Rattle.std.proofs.Common.{List, [], ◌∷◌, ◌++◌, refl, sym, ap, ◌∙◌}
use Rattle.std.proofs.lemmas.Result.{err_from_is_err_and}
use Rattle.xg_parse.specs.declared.tree.ConstWord.{ConstWord}
use Rattle.xg_parse.specs.declared.terminal.Terminal.TheVariants as terms
use Rattle.xg_parse.specs.Rules.{◌▹◌}
use Rattle.xg_parse.specs.Reading.{read_rule}
use Rattle.xg_parse.specs.Grammar.{the, case_list, case, more_cases, const_word}
use Rattle.xg_parse.specs.Gives.{cursor_place}
use Rattle.xg_parse.proofs.LoopLaws.{with_front, shorter, list_starts, loop_goes_on, loop_ends, loop_stops, loop_gives}
use Rattle.xg_parse.proofs.LoopLaws.{first_of}
use Rattle.xg_parse.proofs.unions.case_list.Goals as goal

pub each-init : goal.each-init
unfolding case_list more_cases
each-init c =
    ap (λ (xs : List ConstWord). with_front xs (read_rule more_cases (cursor_place c.in_ok-first.second)))
    (c.in_ok-push.ensures.items ∙ ap (λ (xs : List ConstWord). xs ++ c.in_ok-first.first ∷ [])
    c.new-items.ensures.items)
    ∙ list_starts case case (cursor_place c.args.cursor) (cursor_place c.in_ok-first.second) c.in_ok-first.first
    c.in_ok-first.ensures

pub returns-in_err-item : goal.returns-in_err-item
unfolding more_cases case
returns-in_err-item c =
    let p = err_from_is_err_and c.from_residual-in_err-item.result c.from_residual-in_err-item.ensures.1 in
    rw (p.1, p.2)
    (loop_stops case c.each.items.items (cursor_place c.each.place) _ c.in_err-item.field-0.0 c.each.invariant
    (first_of (the terms.Case) (const_word ▹ the terms.Colon) refl c.each.place.next ∙
    (sym c.is.ensures ∙ c.each-test.true)) c.in_err-item.ensures)

pub each-smaller : goal.each-smaller
unfolding more_cases case
each-smaller c = shorter case refl (cursor_place c.each.place) _ c.in_ok-item.ensures

pub each-preserved : goal.each-preserved
unfolding more_cases case
each-preserved c =
    ap (λ (xs : List ConstWord). with_front xs (read_rule more_cases (cursor_place c.in_ok-item.behind)))
    c.in_ok-push-2.ensures.items
    ∙ loop_goes_on case refl c.each.items.items (cursor_place c.each.place) (cursor_place c.in_ok-item.behind)
    c.in_ok-item.item _
    c.each.invariant (first_of (the terms.Case) (const_word ▹ the terms.Colon) refl c.each.place.next ∙
    (sym c.is.ensures ∙ c.each-test.true)) c.in_ok-item.ensures

pub returns : goal.returns
unfolding more_cases case
returns c =
    loop_gives _ _ _ _ _ (loop_ends case c.each.items.items (cursor_place c.each.place) _ c.each.invariant
    (first_of (the terms.Case) (const_word ▹ the terms.Colon) refl c.each.place.next ∙
    (sym c.is.ensures ∙ c.each-test.false)))
    c.of.ensures c.without.ensures
