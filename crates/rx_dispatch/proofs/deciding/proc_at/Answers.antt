use Rattle.std.proofs.Common.{◌≡◌, length, sym, ◌∙◌, arith}
use Rattle.std.proofs.lemmas.List.{length-map}
use Rattle.std.proofs.lemmas.Option.{slice_get_past}
use Rattle.xdr_value.specs.View.{proc_of, procs_of}
use Rattle.rx_dispatch.proofs.deciding.proc_at.Goals as goal

pub returns-else-index-len : goal.returns-else-index-len
returns-else-index-len c =
    let procs = c.args.iface.now.procs in
    let within : c.len.result ≡ length procs.items = c.len.ensures ∙ procs.ok.0 in
    sym (slice_get_past (procs_of procs.items) c.args.index
    (omega (arith, within, length-map procs.items proc_of, c.if-index-len.false)))
