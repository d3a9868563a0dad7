use Rattle.std.proofs.Common.{refl}
use Rattle.xdr_value.specs.View.{types_of, proc_of, values_of}
use Rattle.rx_script.proofs.ProcLemmas.{can_reply, cannot_reply}
use Rattle.rx_script.proofs.served.reply_bytes.Goals as goal

pub returns-in-Err-Code : goal.returns-in-Err-Code
returns-in-Err-Code c =
    let types = types_of c.args.iface.now.types.items in
    let told = rw c.in-Err-Code.field-0-is at c.in-Err-Code.ensures in
    rw (cannot_reply types (proc_of c.args.p.now) (values_of c.args.values.now) told.1) refl

pub returns-in_ok-with_download-in-Ok : goal.returns-in_ok-with_download-in-Ok
returns-in_ok-with_download-in-Ok c =
    let types = types_of c.args.iface.now.types.items in
    let told = rw c.in-Ok.ensures.1 at c.in_ok-with_download-in-Ok.ensures in
    rw (can_reply types (proc_of c.args.p.now) (values_of c.args.values.now) c.in-Ok.ensures.0) told
