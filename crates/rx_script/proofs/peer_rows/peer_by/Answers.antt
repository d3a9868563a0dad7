use Rattle.std.proofs.Common.{refl, sym, ◌∙◌}
use Rattle.xdr_value.specs.View.{types_of, procs_of}
use Rattle.rx_script.specs.Hosts.{has_host}
use Rattle.rx_script.proofs.RowLemmas.{peer_by_other}
use Rattle.rx_script.proofs.peer_rows.peer_by.Goals as goal

pub returns-in_ok-plain_peer_line-in_default : goal.returns-in_ok-plain_peer_line-in_default
returns-in_ok-plain_peer_line-in_default c =
    let types = types_of c.args.iface.now.types.items in
    let procs = procs_of c.args.iface.now.procs.items in
    let other = peer_by_other types procs (has_host c.args.taken.now) c.args.verb c.args.words.now
    c.in_default.not-Invoke in
    let told = sym c.plain_peer_line.ensures ∙ c.in_ok-plain_peer_line-in_default.was in
    rw (other, told) refl
