use Rattle.std.proofs.Common.{◌≡◌, drop, map}
use Rattle.xdr_value.specs.Data.{Procedure}
use Rattle.xdr_value.specs.View.{procs_of}
use Rattle.std.specs.Prelude.{nat_eq}
use Rattle.xdr_value.specs.Tests.{differ}
use Rattle.xdr_value.proofs.differ.opcodes_differ.Given as goal

abbrev pub invariant-loop-i : goal.invariant-loop-i
invariant-loop-i l = differ nat_eq (map (λ (p : Procedure). p.opcode) (procs_of (drop l.i l.procs))) ≡ differ nat_eq
    (map (λ (p : Procedure). p.opcode) (procs_of l.procs))
