use Rattle.std.proofs.Common.{sym, ◌∙◌, below_more}
use Rattle.std.proofs.lemmas.Bool.{false≢true}
use Rattle.xg_check.proofs.SeenLaws.{right_here, nowhere_wrong}
use Rattle.xg_check.proofs.sizes.Judge.bad.Goals as goal

pub loop-mark-preserved : goal.loop-mark-preserved
loop-mark-preserved c =
    below_more _ _ c.loop-mark.invariant
    (right_here _ c.args.marks.now c.loop-mark.mark-index c.mark-item.result c.loop-mark-test.true c.mark-item.is
    (λ w. false≢true (sym c.if-branch.false ∙ c.in_ok-is_bad.ensures.1 w)))

pub returns : goal.returns
returns c = nowhere_wrong _ c.args.marks.now c.loop-mark.mark-index c.loop-mark-test.false c.loop-mark.invariant
