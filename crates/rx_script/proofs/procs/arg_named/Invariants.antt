use Rattle.std.proofs.Common.{◌≡◌, drop, map}
use Rattle.xdr_value.specs.View.{param_of}
use Rattle.rx_script.specs.Procs.{param_named}
use Rattle.rx_script.proofs.procs.arg_named.Given as goal

abbrev pub invariant-loop-arg : goal.invariant-loop-arg
invariant-loop-arg l =
    param_named l.name (map param_of (drop l.arg-index l.args)) ≡ param_named l.name (map param_of l.args)
