use Rattle.std.proofs.Common.{sym}
use Rattle.xdr_value.specs.View.{types_of, proc_of, values_of}
use Rattle.rx_script.proofs.ProcLemmas.{can_request, cannot_request}
use Rattle.rx_script.proofs.procs.is_request.Goals as goal
use Rattle.rx_script.proofs.procs.is_request.Goals.{in-Ok, in-Err-Code, in-Err-OutOfMemory}

pub returns : goal.returns
returns c =
    let types = types_of c.args.iface.now.types.items in
    let p = proc_of c.args.p.now in
    let values = values_of c.args.args.now in
    elim c.match-request.branch [
      | in-Ok w ↦ rw w.result-is (sym (can_request types p values w.in-Ok.ensures.0))
      | in-Err-Code w ↦
          let told = rw w.in-Err-Code.field-0-is at w.in-Err-Code.ensures in
          rw w.result-is (sym (cannot_request types p values told.1))
      | in-Err-OutOfMemory w ↦ rw w.result-is tt
    ]
