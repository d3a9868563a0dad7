use Rattle.std.proofs.lemmas.Result.{err_from_is_err_and}
use Rattle.xg_check.proofs.SoundLaws.{meant_passes}
use Rattle.xg_check.proofs.checker.checked.Goals as goal

pub make-requires : goal.make-requires
make-requires c =
    rw (c.in_ok-types.ensures, c.in_ok-procs.ensures, c.in_ok-constants.ensures)
    (meant_passes c.args.tree.now c.in_ok-judge.ensures.faultless c.in_ok-opcodes.ensures.has
    c.in_ok-opcodes.ensures.differ)

pub returns-in_err-procs : goal.returns-in_err-procs
returns-in_err-procs c =
    let p = err_from_is_err_and c.from_residual-in_err-procs.result c.from_residual-in_err-procs.ensures.1 in
    rw (p.1, p.2) tt

pub returns-in_err-package : goal.returns-in_err-package
returns-in_err-package c =
    let p = err_from_is_err_and c.from_residual-in_err-package.result c.from_residual-in_err-package.ensures.1 in
    rw (p.1, p.2) tt

pub returns-in_err-prefix : goal.returns-in_err-prefix
returns-in_err-prefix c =
    let p = err_from_is_err_and c.from_residual-in_err-prefix.result c.from_residual-in_err-prefix.ensures.1 in
    rw (p.1, p.2) tt
