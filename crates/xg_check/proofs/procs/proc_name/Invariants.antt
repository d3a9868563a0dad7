use Rattle.std.proofs.Common.{◌≡◌, drop, slice_get}
use Rattle.xg_check.proofs.CountLaws.{proc_names}
use Rattle.xg_check.proofs.procs.proc_name.Given as goal

abbrev pub invariant-loop-item : goal.invariant-loop-item
invariant-loop-item l = slice_get (proc_names (drop l.item-index l.item-items)) l.left
    ≡ slice_get (proc_names l.item-items) l.number
