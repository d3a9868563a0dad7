use Rattle.std.proofs.Common.{◌≡◌, drop}
use Rattle.xdr_value.specs.View.{procs_of}
use Rattle.rx_script.specs.Procs.{proc_named}
use Rattle.rx_reply.proofs.procs.proc_named.Given as goal

abbrev pub invariant-loop-p : goal.invariant-loop-p
invariant-loop-p l = proc_named l.name (procs_of (drop l.p-index l.procs)) ≡ proc_named l.name (procs_of l.procs)
