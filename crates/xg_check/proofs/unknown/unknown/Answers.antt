use Rattle.std.proofs.Common.{sym, ◌∙◌, below_more}
use Rattle.xg_check.proofs.SeenLaws.{known_here, unknown_here, first_found, nowhere_unknown}
use Rattle.xg_check.proofs.unknown.unknown.Goals as goal

pub loop-mark-preserved : goal.loop-mark-preserved
loop-mark-preserved c =
    below_more _ _ c.loop-mark.invariant
    (known_here _ c.args.marks.now c.loop-mark.mark-index c.mark-item.result c.loop-mark-test.true c.mark-item.is
    (sym c.if-is_unknown.false ∙ c.is_unknown.ensures))

pub returns-then-is_unknown : goal.returns-then-is_unknown
returns-then-is_unknown c =
    first_found _ c.args.marks.now c.loop-mark.mark-index c.mark-item.result c.name.result c.loop-mark-test.true
    c.mark-item.is c.loop-mark.invariant
    (unknown_here _ c.args.marks.now c.loop-mark.mark-index c.mark-item.result c.loop-mark-test.true c.mark-item.is
    (sym c.if-is_unknown.true ∙ c.is_unknown.ensures))
    c.name.ensures

pub returns : goal.returns
returns c = nowhere_unknown _ c.args.marks.now c.loop-mark.mark-index c.loop-mark-test.false c.loop-mark.invariant
