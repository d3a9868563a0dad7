use Rattle.xdr_value.specs.View.{types_of, procs_of}
use Rattle.rx_script.specs.Hosts.{is_host}
use Rattle.rx_script.specs.Rows.{plain_line}
use Rattle.rx_script.specs.Saying.{plan_said}
use Rattle.rx_script.proofs.RowLemmas.{plan_by_other}
use Rattle.rx_script.proofs.WordLemmas.{seen_then}
use Rattle.rx_script.proofs.plan_rows.plan_by.Goals as goal

pub returns-in_default : goal.returns-in_default
returns-in_default c =
    let types = types_of c.args.iface.now.types.items in
    let procs = procs_of c.args.iface.now.procs.items in
    let taken = is_host c.args.server in
    rw (plan_by_other types procs taken c.args.verb c.args.words.now c.in_default.not-Invoke)
    (seen_then plan_said (plain_line taken c.args.verb c.args.words.now) c.plain_line.result c.plain_line.ensures)
