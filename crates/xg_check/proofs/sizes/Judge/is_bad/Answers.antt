use Rattle.std.proofs.Common.{◌≡◌}
use Rattle.xg_check.specs.declared.marks.Mark.TheVariants as marks
use Rattle.xg_check.proofs.sizes.Judge.is_bad.Goals as goal

pub returns-in-Constant : goal.returns-in-Constant
returns-in-Constant c =
    let e : c.args.mark.now ≡ marks.Constant c.in-Constant.name c.in-Constant.is_member = cc in
    rw e c.is_constant_bad.ensures
