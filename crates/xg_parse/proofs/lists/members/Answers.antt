use Rattle.std.proofs.Common.{List, [], ◌∷◌, ◌++◌, refl, sym, ap, ◌∙◌}
use Rattle.std.proofs.lemmas.Result.{err_from_is_err_and}
use Rattle.xg_parse.specs.declared.tree.MembItem.{MembItem}
use Rattle.xg_parse.specs.declared.terminal.Terminal.TheVariants as terms
use Rattle.xg_parse.specs.Reading.{read_rule}
use Rattle.xg_parse.specs.Grammar.{the, members, member, next_members, next_member}
use Rattle.xg_parse.specs.Gives.{cursor_place}
use Rattle.xg_parse.proofs.LoopLaws.{with_front, shorter, list_starts, loop_goes_on, loop_ends, loop_stops, loop_gives}
use Rattle.xg_parse.proofs.LoopLaws.{first_of}
use Rattle.xg_parse.proofs.lists.members.Goals as goal

pub each-init : goal.each-init
unfolding members next_members
each-init c =
    ap (λ (xs : List MembItem). with_front xs (read_rule next_members (cursor_place c.in_ok-first.second)))
    (c.in_ok-push.ensures.items ∙ ap (λ (xs : List MembItem). xs ++ c.in_ok-first.first ∷ [])
    c.new-items.ensures.items)
    ∙ list_starts member next_member (cursor_place c.args.cursor) (cursor_place c.in_ok-first.second)
    c.in_ok-first.first c.in_ok-first.ensures

pub returns-in_err-item : goal.returns-in_err-item
unfolding next_members next_member
returns-in_err-item c =
    let p = err_from_is_err_and c.from_residual-in_err-item.result c.from_residual-in_err-item.ensures.1 in
    rw (p.1, p.2)
    (loop_stops next_member c.each.items.items (cursor_place c.each.place) _ c.in_err-item.field-0.0 c.each.invariant
    (first_of (the terms.Comma) member refl c.each.place.next ∙ (sym c.is.ensures ∙ c.each-test.true))
    c.in_err-item.ensures)

pub each-smaller : goal.each-smaller
unfolding next_members next_member
each-smaller c = shorter next_member refl (cursor_place c.each.place) _ c.in_ok-item.ensures

pub each-preserved : goal.each-preserved
unfolding next_members next_member
each-preserved c =
    ap (λ (xs : List MembItem). with_front xs (read_rule next_members (cursor_place c.in_ok-item.behind)))
    c.in_ok-push-2.ensures.items
    ∙ loop_goes_on next_member refl c.each.items.items (cursor_place c.each.place)
    (cursor_place c.in_ok-item.behind) c.in_ok-item.item _
    c.each.invariant (first_of (the terms.Comma) member refl c.each.place.next ∙
    (sym c.is.ensures ∙ c.each-test.true)) c.in_ok-item.ensures

pub returns : goal.returns
unfolding next_members next_member
returns c =
    loop_gives _ _ _ _ _ (loop_ends next_member c.each.items.items (cursor_place c.each.place) _ c.each.invariant
    (first_of (the terms.Comma) member refl c.each.place.next ∙ (sym c.is.ensures ∙ c.each-test.false)))
    c.of.ensures c.without.ensures
