use Rattle.std.proofs.Common.{◌≡◌, drop}
use Rattle.xdr_value.specs.View.{procs_of}
use Rattle.stub_table.specs.Requests.{found_from}
use Rattle.stub_table.proofs.reading.with_opcode.Given as goal

abbrev pub invariant-loop-index : goal.invariant-loop-index
invariant-loop-index l = found_from l.index l.opcode (procs_of (drop l.index l.iface.procs.items))
    ≡ found_from 0 l.opcode (procs_of l.iface.procs.items)
