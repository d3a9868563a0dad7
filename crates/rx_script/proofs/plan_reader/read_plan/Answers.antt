use Rattle.std.proofs.Common.{[]}
use Rattle.std.proofs.lemmas.Result.{err_from_is_err_and}
use Rattle.xdr_value.specs.View.{types_of, procs_of}
use Rattle.rx_script.specs.Plans.{plan_step}
use Rattle.rx_script.proofs.TextLemmas.{read_all, read_none, read_one, read_refused}
use Rattle.rx_script.proofs.plan_reader.read_plan.Goals as goal

pub loop-line-init : goal.loop-line-init
loop-line-init c =
    let step = plan_step (types_of c.args.iface.now.types.items) (procs_of c.args.iface.now.procs.items) in
    rw (c.no_lines-draft.ensures, c.of-lines.ensures) (read_none step [] c.args.text.now)

pub returns-in_err-draft-clause-err : goal.returns-in_err-draft-clause-err
returns-in_err-draft-clause-err c =
    let so_far = rw c.in-Some.ensures.next at c.loop-line.invariant in
    let given = err_from_is_err_and c.from_residual.result c.from_residual.ensures.1 in
    let refused = c.in_err-draft.ensures.err in
    rw (given.1, given.2) (read_refused c.in_err-draft.field-0.0 so_far refused)

pub loop-line-preserved : goal.loop-line-preserved
loop-line-preserved c =
    let so_far = rw c.in-Some.ensures.next at c.loop-line.invariant in
    read_one so_far c.in_ok-draft.ensures.within c.in_ok-draft.ensures.ok

pub returns-clause-ok : goal.returns-clause-ok
returns-clause-ok c =
    let so_far = rw c.in_default.ensures.ended at c.loop-line.invariant in
    read_all so_far
