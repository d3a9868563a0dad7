use Rattle.std.proofs.Common.{◌≡◌, drop, map}
use Rattle.xdr_value.specs.Tests.{params_known}
use Rattle.xdr_value.specs.View.{types_of, param_of}
use Rattle.xdr_tests.proofs.json.args.all_known.Given as goal

abbrev pub invariant-loop-arg : goal.invariant-loop-arg
invariant-loop-arg l =
    params_known (types_of l.types) (map param_of (drop l.arg-index l.args))
    ≡ params_known (types_of l.types) (map param_of l.args)
