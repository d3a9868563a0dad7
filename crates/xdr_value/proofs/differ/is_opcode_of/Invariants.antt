use Rattle.std.proofs.Common.{◌≡◌, drop, map}
use Rattle.xdr_value.specs.Data.{Procedure}
use Rattle.xdr_value.specs.View.{procs_of}
use Rattle.std.specs.Prelude.{nat_eq}
use Rattle.xdr_value.specs.Tests.{has_one}
use Rattle.xdr_value.proofs.differ.is_opcode_of.Given as goal

abbrev pub invariant-loop-one : goal.invariant-loop-one
invariant-loop-one l = has_one nat_eq l.opcode
    (map (λ (p : Procedure). p.opcode) (procs_of (drop l.one-index l.procs))) ≡ has_one nat_eq l.opcode
    (map (λ (p : Procedure). p.opcode) (procs_of l.procs))
