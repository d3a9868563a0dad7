use Rattle.std.proofs.Common.{◌≡◌, length, sym, ◌∙◌, arith}
use Rattle.std.proofs.lemmas.List.{length-map}
use Rattle.std.proofs.lemmas.Option.{slice_get_past}
use Rattle.xdr_value.specs.View.{proc_of, procs_of}
use Rattle.stub_table.proofs.Known.{proc_at}
use Rattle.rx_script.proofs.script_reader.proc_at.Goals as goal

pub returns-then-place-len-clause-one : goal.returns-then-place-len-clause-one
returns-then-place-len-clause-one c =
    let procs = c.args.iface.now.procs in
    let within : c.len.result ≡ length procs.items = c.len.ensures ∙ procs.ok.0 in
    proc_at procs.items c.args.place c.index.result.now (omega (arith, within, c.if-place-len.true)) c.index.ensures

pub returns-else-place-len-clause-found : goal.returns-else-place-len-clause-found
returns-else-place-len-clause-found c =
    let procs = c.args.iface.now.procs in
    let within : c.len.result ≡ length procs.items = c.len.ensures ∙ procs.ok.0 in
    sym (slice_get_past (procs_of procs.items) c.args.place
    (omega (arith, within, length-map procs.items proc_of, c.if-place-len.false)))
