use Rattle.std.proofs.Common.{◌≡◌, ◌++◌, map, drop}
use Rattle.xdr_value.specs.declared.def.Mode.TheVariants as modes
use Rattle.xdr_value.specs.View.{param_of}
use Rattle.xg_check.specs.Meant.{args_meant}
use Rattle.xg_check.proofs.procs.args.Given as goal

abbrev pub invariant-loop-item : goal.invariant-loop-item
invariant-loop-item l = map param_of l.args.items ++ args_meant l.constants l.mode (drop l.item-index l.items)
    ≡ args_meant l.constants modes.In l.items
