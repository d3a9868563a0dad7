use Rattle.std.proofs.Common.{◌≡◌, ◌+◌, ◌≤◌, map, drop, length}
use Rattle.xdr_value.specs.View.{param_of}
use Rattle.xdr_json.specs.Args.{in_kinds}
use Rattle.xdr_json.proofs.args.in_count.Given as goal

abbrev pub invariant-loop-arg : goal.invariant-loop-arg
invariant-loop-arg l = record {
  few : l.count ≤ l.arg-index;
  told : l.count + length (in_kinds (map param_of (drop l.arg-index l.args))) ≡ length (in_kinds (map param_of l.args));
}
