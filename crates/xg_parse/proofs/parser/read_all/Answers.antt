use Rattle.std.proofs.Common.{◌≡◌, ℕ, ◌<◌, false, eqb, arith, sym, ap, ◌∙◌}
use Rattle.std.proofs.lemmas.Bool.{eqb-true, eqb-false}
use Rattle.xg_parse.specs.Reading.{place_at, read_rule}
use Rattle.xg_parse.specs.Grammar.{file}
use Rattle.xg_parse.specs.Gives.{cursor_place}
use Rattle.xg_parse.proofs.FileLaws.{tree_told, left_told, refused_told}
use Rattle.xg_parse.proofs.parser.read_all.Goals as goal

some_left : (n : ℕ) → eqb n 0 ≡ false → 0 < n
some_left n e = let some = eqb-false n 0 e in omega (arith, some)

pub returns-then-is_empty : goal.returns-then-is_empty
returns-then-is_empty c =
    tree_told c.args.tokens.now.items c.in-Ok.items (cursor_place c.in-Ok.cursor)
    (ap (read_rule file) (sym (c.at.ensures ∙ ap place_at c.as_slice.ensures)) ∙ c.in-Ok.ensures)
    (eqb-true _ 0 (sym c.is_empty.ensures ∙ c.if-is_empty.true))

pub returns-else-is_empty : goal.returns-else-is_empty
returns-else-is_empty c =
    left_told c.args.tokens.now c.in-Ok.items (cursor_place c.in-Ok.cursor) c.fault_at.result
    (ap (read_rule file) (sym (c.at.ensures ∙ ap place_at c.as_slice.ensures)) ∙ c.in-Ok.ensures)
    (some_left _ (sym c.is_empty.ensures ∙ c.if-is_empty.false)) c.fault_at.ensures

pub returns-in-Err-Refused : goal.returns-in-Err-Refused
returns-in-Err-Refused c =
    refused_told c.args.tokens.now (cursor_place c.in-Err-Refused.cursor) c.fault_at-in-Err-Refused.result
    (ap (read_rule file) (sym (c.at.ensures ∙ ap place_at c.as_slice.ensures)) ∙ rw c.in-Err-Refused.field-0-is at
    c.in-Err-Refused.ensures) c.fault_at-in-Err-Refused.ensures
