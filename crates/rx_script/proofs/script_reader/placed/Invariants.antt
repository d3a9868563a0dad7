use Rattle.std.proofs.Common.{◌≡◌, drop}
use Rattle.xdr_value.specs.View.{procs_of}
use Rattle.rx_script.specs.Scripts.{placed_from}
use Rattle.rx_script.proofs.script_reader.placed.Given as goal

abbrev pub invariant-loop-i : goal.invariant-loop-i
invariant-loop-i l = placed_from l.i l.name (procs_of (drop l.i l.procs)) ≡ placed_from 0 l.name (procs_of l.procs)
