use Rattle.std.proofs.lemmas.Result.{err_from_is_err_and}
use Rattle.xdr_value.specs.View.{types_of, procs_of}
use Rattle.rx_script.specs.Scripts.{closed, no_lines, script_step}
use Rattle.rx_script.specs.Texts.{text_given}
use Rattle.rx_script.proofs.TextLemmas.{fault_after, read_none, read_one, read_refused}
use Rattle.rx_script.proofs.script_reader.read_script.Goals as goal

pub loop-line-init : goal.loop-line-init
loop-line-init c =
    let step = script_step (types_of c.args.iface.now.types.items) (procs_of c.args.iface.now.procs.items) in
    rw (c.new.ensures.items, c.of-lines.ensures) (read_none step no_lines c.args.text.now)

pub loop-line-preserved : goal.loop-line-preserved
loop-line-preserved c =
    let so_far = rw c.in-Some.ensures.next at c.loop-line.invariant in
    read_one so_far c.in_ok-draft.ensures.within c.in_ok-draft.ensures.ok

pub returns-in_err-draft-clause-err : goal.returns-in_err-draft-clause-err
returns-in_err-draft-clause-err c =
    let step = script_step (types_of c.args.iface.now.types.items) (procs_of c.args.iface.now.procs.items) in
    let so_far = rw c.in-Some.ensures.next at c.loop-line.invariant in
    let given = err_from_is_err_and c.from_residual.result c.from_residual.ensures.1 in
    let refused = c.in_err-draft.ensures.err in
    let fault = c.in_err-draft.field-0.0 in
    rw (given.1, given.2) (fault_after (text_given step no_lines c.args.text.now) closed fault
    (read_refused fault so_far refused))
