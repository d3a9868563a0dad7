use Rattle.std.proofs.Common.{◌≡◌, ℕ, drop}
use Rattle.std.specs.Prelude.{option_map}
use Rattle.xdr_value.specs.Data.{Procedure}
use Rattle.xdr_value.specs.View.{procs_of}
use Rattle.stub_table.specs.Requests.{found_from}
use Rattle.rx_dispatch.proofs.keeping.with_opcode.Given as goal

abbrev pub invariant-loop-index : goal.invariant-loop-index
invariant-loop-index l =
    option_map (λ (found : ℕ × Procedure). found.1)
    (found_from l.index l.opcode (procs_of (drop l.index l.iface.procs.items)))
    ≡ option_map (λ (found : ℕ × Procedure). found.1)
    (found_from 0 l.opcode (procs_of l.iface.procs.items))
