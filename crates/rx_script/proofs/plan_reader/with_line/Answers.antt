use Rattle.std.proofs.Common.{◌≡◌, false, Ok, sym, ap, ◌∙◌}
use Rattle.xdr_value.specs.View.{types_of, procs_of}
use Rattle.rx_script.specs.Saying.{plan_rows, plan_said}
use Rattle.rx_script.specs.Texts.{is_skipped}
use Rattle.rx_script.proofs.RowLemmas.{plan_refused, plan_taken}
use Rattle.rx_script.proofs.plan_reader.with_line.Goals as goal

pub returns-in-Ok-clause-ok : goal.returns-in-Ok-clause-ok
returns-in-Ok-clause-ok c =
    let types = types_of c.args.iface.now.types.items in
    let procs = procs_of c.args.iface.now.procs.items in
    let says : is_skipped c.args.line.now ≡ false = sym c.is_skipped.ensures ∙ c.if-is_skipped.false in
    let told = rw (c.of.ensures, c.args.draft.served) at c.in-Ok.ensures in
    plan_taken types procs c.args.number c.args.line.now (plan_rows c.args.draft.lines.items) (plan_said c.in-Ok.what)
    c.if-number-gt-MAX_LINES.false says told
    ∙ ap Ok (sym c.in_ok-with-in-Ok.ensures)

pub returns-in-Err-Bad-clause-err : goal.returns-in-Err-Bad-clause-err
returns-in-Err-Bad-clause-err c =
    let types = types_of c.args.iface.now.types.items in
    let procs = procs_of c.args.iface.now.procs.items in
    let says : is_skipped c.args.line.now ≡ false = sym c.is_skipped.ensures ∙ c.if-is_skipped.false in
    let judged = rw c.in-Err-Bad.field-0-is at c.in-Err-Bad.ensures in
    let told = rw (c.of.ensures, c.args.draft.served) at judged in
    plan_refused types procs c.args.number c.args.line.now (plan_rows c.args.draft.lines.items) c.in-Err-Bad.why
    c.if-number-gt-MAX_LINES.false says told
