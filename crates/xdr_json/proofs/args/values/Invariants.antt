use Rattle.std.proofs.Common.{◌≡◌, ◌≤◌, map, drop, length}
use Rattle.serde_json.specs.Data.{items_depth}
use Rattle.serde_json.specs.View.{items_view}
use Rattle.xdr_value.specs.View.{types_of, values_of, param_of}
use Rattle.xdr_json.specs.Args.{args_judged, in_kinds}
use Rattle.xdr_json.proofs.Loop.{with_front}
use Rattle.xdr_json.proofs.args.values.Given as goal

abbrev pub invariant-loop-arg : goal.invariant-loop-arg
invariant-loop-arg l = record {
  shallow : items_depth (items_view l.left) ≤ 126;
  told : with_front (values_of l.values.items) (args_judged (types_of l.iface.types.items)
      (in_kinds (map param_of (drop l.arg-index l.args))) (items_view l.left) (length l.values.items))
      ≡ args_judged (types_of l.iface.types.items) (in_kinds (map param_of l.args)) (items_view l.items) 0;
}
