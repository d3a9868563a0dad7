use Rattle.std.proofs.Common.{List, refl, sym, ap, ◌∙◌}
use Rattle.std.proofs.lemmas.Result.{err_from_is_err_and}
use Rattle.xg_parse.specs.declared.tree.Decl.{Decl}
use Rattle.xg_parse.specs.Reading.{read_rule}
use Rattle.xg_parse.specs.Grammar.{decl_lines, decl_line, decl, type_word, optional_tag, name}
use Rattle.xg_parse.specs.Gives.{cursor_place}
use Rattle.xg_parse.proofs.LoopLaws.{with_front, shorter, loop_goes_on, loop_ends, loop_stops, loop_gives}
use Rattle.xg_parse.proofs.lists.decl_lines.Goals as goal

pub returns-in_err-item : goal.returns-in_err-item
unfolding decl_lines decl_line decl type_word optional_tag name
returns-in_err-item c =
    let p = err_from_is_err_and c.from_residual.result c.from_residual.ensures.1 in
    rw (p.1, p.2)
    (loop_stops decl_line c.each.items.items (cursor_place c.each.place) _ c.in_err-item.field-0.0 c.each.invariant
    (sym c.begins_decl.ensures ∙ c.each-test.true) c.in_err-item.ensures)

pub each-smaller : goal.each-smaller
unfolding decl_lines decl_line decl type_word optional_tag name
each-smaller c = shorter decl_line refl (cursor_place c.each.place) _ c.in_ok-item.ensures

pub each-preserved : goal.each-preserved
unfolding decl_lines decl_line decl type_word optional_tag name
each-preserved c =
    ap (λ (xs : List Decl). with_front xs (read_rule decl_lines (cursor_place c.in_ok-item.behind)))
    c.in_ok-push.ensures.items
    ∙ loop_goes_on decl_line refl c.each.items.items (cursor_place c.each.place) (cursor_place c.in_ok-item.behind)
    c.in_ok-item.item _
    c.each.invariant (sym c.begins_decl.ensures ∙ c.each-test.true) c.in_ok-item.ensures

pub returns : goal.returns
unfolding decl_lines decl_line decl type_word optional_tag name
returns c =
    loop_gives _ _ _ _ _ (loop_ends decl_line c.each.items.items (cursor_place c.each.place) _ c.each.invariant
    (sym c.begins_decl.ensures ∙ c.each-test.false))
    c.of.ensures c.without.ensures
